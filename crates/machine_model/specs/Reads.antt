-- A READ inside of a program: what a step of it does and leads to is said once for all programs that have one.
use Rattle.std.specs.Prelude.{◌≡◌, Some}
use Rattle.history.specs.declared.calls.Call.{Call}
use Rattle.machine_model.specs.Beneath.slot_arena.specs.declared.refs.Ref.{Ref}
use Rattle.machine_model.specs.declared.copying.CopyLine.{CopyLine}
use Rattle.machine_model.specs.declared.copying.CopyLine.TheVariants as copy
use Rattle.machine_model.specs.declared.finding.KeyLine.{KeyLine}
use Rattle.machine_model.specs.declared.finding.KeyLine.TheVariants as key
use Rattle.machine_model.specs.declared.lines.Line.{Line}
use Rattle.machine_model.specs.declared.lines.Line.TheVariants as line
use Rattle.machine_model.specs.declared.operations.Operation.{Operation}
use Rattle.machine_model.specs.declared.reading.After.{After}
use Rattle.machine_model.specs.declared.reading.After.TheVariants.{Goes, Gives}
use Rattle.machine_model.specs.declared.reading.Read.{Read}
use Rattle.machine_model.specs.declared.reading.ReadLine.{ReadLine}
use Rattle.machine_model.specs.declared.reading.SwapLine.{SwapLine}
use Rattle.machine_model.specs.declared.reading.SwapLine.TheVariants as swap
use Rattle.machine_model.specs.declared.repairs.CleanLine.{CleanLine}
use Rattle.machine_model.specs.declared.repairs.CleanLine.TheVariants as clean
use Rattle.machine_model.specs.declared.repairs.ClimbLine.{ClimbLine}
use Rattle.machine_model.specs.declared.repairs.ClimbLine.TheVariants as climb
use Rattle.machine_model.specs.declared.repairs.RenewLine.{RenewLine}
use Rattle.machine_model.specs.declared.repairs.RenewLine.TheVariants as renew
use Rattle.machine_model.specs.declared.roots.CompleteLine.{CompleteLine}
use Rattle.machine_model.specs.declared.roots.CompleteLine.TheVariants as complete
use Rattle.machine_model.specs.declared.roots.RootLine.{RootLine}
use Rattle.machine_model.specs.declared.roots.RootLine.TheVariants as root
use Rattle.machine_model.specs.declared.walking.WalkLine.{WalkLine}
use Rattle.machine_model.specs.declared.walking.WalkLine.TheVariants as walk
use Rattle.machine_model.specs.Calls.{handle_of}
use Rattle.machine_model.specs.Operations.{EmbedsRead, action_of, generation_from, line_after, read_of}
use Rattle.machine_model.specs.Acting.{operation_after}
use Rattle.machine_model.specs.Copying.{after_given}
use Rattle.machine_model.specs.Reading.{read_action, read_after}
use Rattle.machine_model.specs.States.{State, word_at}

-- ---- the line of a program whose READ stands on another line

abbrev pub read_at : Read → ReadLine → Read
read_at r l = record r { line = l }

abbrev pub completing_at : ReadLine → CompleteLine → CompleteLine
completing_at l (complete.Reading other) = complete.Reading l
completing_at l (complete.Swap main) = complete.Swap main

abbrev pub rooting_at : ReadLine → RootLine → RootLine
rooting_at l root.Read = root.Read
rooting_at l (root.Completing c) = root.Completing (record c { line = completing_at l c.line })

abbrev pub swapping_at : ReadLine → SwapLine → SwapLine
swapping_at l swap.Publish = swap.Publish
swapping_at l (swap.Deciding other) = swap.Deciding l
swapping_at l swap.Check = swap.Check

abbrev pub keying_at : ReadLine → KeyLine → KeyLine
keying_at l (key.Read path r) = key.Read path (read_at r l)
keying_at l other = other

abbrev pub renewing_at : ReadLine → RenewLine → RenewLine
renewing_at l (renew.Read path main done r) = renew.Read path main done (read_at r l)
renewing_at l other = other

abbrev pub cleaning_at : ReadLine → CleanLine → CleanLine
cleaning_at l (clean.Read path r) = clean.Read path (read_at r l)
cleaning_at l (clean.Child path main done r) = clean.Child path main done (read_at r l)
cleaning_at l other = other

abbrev pub climbing_at : ReadLine → ClimbLine → ClimbLine
climbing_at l (climb.Read c r) = climb.Read c (read_at r l)
climbing_at l (climb.Root c other) = climb.Root c (rooting_at l other)
climbing_at l other = other

abbrev pub copying_at : ReadLine → CopyLine → CopyLine
copying_at l (copy.Read at r) = copy.Read at (read_at r l)
copying_at l (copy.Complete c) = copy.Complete (record c { line = completing_at l c.line })
copying_at l other = other

abbrev pub walking_at : ReadLine → WalkLine → WalkLine
walking_at l (walk.Read r todo pairs) = walk.Read (read_at r l) todo pairs
walking_at l other = other

-- the line of a program whose READ, if it is in one, stands on this line
abbrev pub with_read : ReadLine → Line → Line
with_read l (line.Root r) = line.Root (rooting_at l r)
with_read l (line.Key k) = line.Key (keying_at l k)
with_read l (line.Build b) = line.Build b
with_read l (line.Swap why s) = line.Swap why (record s { line = swapping_at l s.line })
with_read l (line.Renew r) = line.Renew (renewing_at l r)
with_read l (line.Clean c) = line.Clean (cleaning_at l c)
with_read l (line.Climb c) = line.Climb (climbing_at l c)
with_read l (line.Copy c) = line.Copy (copying_at l c)
with_read l (line.Walk w) = line.Walk (walking_at l w)
with_read l (line.End answer) = line.End answer
with_read l line.Impossible = line.Impossible

-- ---- the line of a program behind its READ, which gave this main node

abbrev pub rooting_given : Ref → RootLine → RootLine
rooting_given main root.Read = root.Read
rooting_given main (root.Completing c) = root.Completing (record c { line = complete.Swap main })

abbrev pub keying_given : Ref → KeyLine → KeyLine
keying_given main (key.Read path r) = key.Main path main
keying_given main other = other

abbrev pub renewing_given : Ref → RenewLine → RenewLine
renewing_given given (renew.Read path main done r) = renew.Link path main done given
renewing_given given other = other

abbrev pub cleaning_given : Ref → CleanLine → CleanLine
cleaning_given given (clean.Read path r) = clean.Main path given
cleaning_given given (clean.Child path main done r) = clean.Tomb path main done given
cleaning_given given other = other

abbrev pub climbing_given : Ref → ClimbLine → ClimbLine
climbing_given main (climb.Read c r) = climb.Main c main
climbing_given main (climb.Root c other) = climb.Root c (rooting_given main other)
climbing_given main other = other

abbrev pub copying_given : Call → Ref → CopyLine → Line
copying_given call main (copy.Read at r) = after_given call at main
copying_given call main (copy.Complete c) = line.Copy (copy.Complete (record c { line = complete.Swap main }))
copying_given call main other = line.Copy other

abbrev pub walking_given : Ref → WalkLine → WalkLine
walking_given main (walk.Read r todo pairs) = walk.Main main todo pairs
walking_given main other = other

abbrev pub with_given : Call → Ref → Line → Line
with_given call main (line.Root r) = line.Root (rooting_given main r)
with_given call main (line.Key k) = line.Key (keying_given main k)
with_given call main (line.Build b) = line.Build b
with_given call main (line.Swap why s) = line.Swap why (record s { line = swap.Check })
with_given call main (line.Renew r) = line.Renew (renewing_given main r)
with_given call main (line.Clean c) = line.Clean (cleaning_given main c)
with_given call main (line.Climb c) = line.Climb (climbing_given main c)
with_given call main (line.Copy c) = copying_given call main c
with_given call main (line.Walk w) = line.Walk (walking_given main w)
with_given call main (line.End answer) = line.End answer
with_given call main line.Impossible = line.Impossible

-- ---- a step of a READ is the same in all programs

-- what a READ of this indirection comes to on this line, in an operation
abbrev pub reads_to : State → Operation → Ref → ReadLine → After ReadLine Ref
reads_to state operation indirection l = read_after state.heap operation.access (word_at state (handle_of operation.call)) indirection l

-- the line behind that
abbrev pub line_behind : Call → Line → After ReadLine Ref → Line
line_behind call l (Goes after) = with_read after l
line_behind call l (Gives main) = with_given call main l

-- The line of a program embeds this READ: a step of it is the READ's, whichever line that is on; where the READ goes on the program goes on with it, and where
-- it gives a main node the program goes on with that. What else the operation remembers stays.
pub record Embeds (l : Line) (r : Read) : Type 0 where
  pub here : with_read r.line l ≡ l
  pub embedded : EmbedsRead (λ at. with_read at l) r.indirection
  pub again : (at other : ReadLine) → with_read at (with_read other l) ≡ with_read at l
  pub leads : (state : State) (operation : Operation) (at : ReadLine) →
      line_after state operation (with_read at l) ≡ line_behind operation.call l (reads_to state operation r.indirection at)
  pub stays : (state : State) (operation : Operation) (at : ReadLine) → generation_from state operation (with_read at l) ≡ operation.generation

-- a law: each line embeds the READ that it is in
abbrev pub EachEmbeds : Type 0
EachEmbeds = (l : Line) → (r : Read) → read_of l ≡ Some r → Embeds l r

-- a law: where an operation is in a READ, its step does what the READ's line does, and changes of the operation its line alone
abbrev pub StepsOfReads : Type 0
StepsOfReads =
    (state : State) (operation : Operation) (r : Read) → read_of operation.line ≡ Some r →
    (action_of state operation ≡ read_action r.indirection r.line)
    × (operation_after state operation ≡ record operation { line = line_behind operation.call operation.line (reads_to state operation r.indirection r.line) })
