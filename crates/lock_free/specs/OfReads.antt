-- The READ in which an operation is, whatever program it belongs to: its line with the READ further on, and after it.
use Rattle.history.specs.declared.calls.Call.{Call}
use Rattle.machine_model.specs.Beneath.slot_arena.specs.declared.refs.Ref.{Ref}
use Rattle.machine_model.specs.declared.reading.After.{After}
use Rattle.machine_model.specs.declared.reading.After.TheVariants.{Goes, Gives}
use Rattle.machine_model.specs.declared.reading.Read.{Read}
use Rattle.machine_model.specs.declared.reading.ReadLine.{ReadLine}
use Rattle.machine_model.specs.declared.reading.SwapLine.TheVariants as swap
use Rattle.machine_model.specs.declared.roots.Complete.{Complete}
use Rattle.machine_model.specs.declared.roots.CompleteLine.TheVariants as complete
use Rattle.machine_model.specs.declared.roots.RootLine.{RootLine}
use Rattle.machine_model.specs.declared.roots.RootLine.TheVariants as root
use Rattle.machine_model.specs.declared.finding.KeyLine.{KeyLine}
use Rattle.machine_model.specs.declared.finding.KeyLine.TheVariants as key
use Rattle.machine_model.specs.declared.repairs.RenewLine.{RenewLine}
use Rattle.machine_model.specs.declared.repairs.RenewLine.TheVariants as renew
use Rattle.machine_model.specs.declared.repairs.CleanLine.{CleanLine}
use Rattle.machine_model.specs.declared.repairs.CleanLine.TheVariants as clean
use Rattle.machine_model.specs.declared.repairs.ClimbLine.{ClimbLine}
use Rattle.machine_model.specs.declared.repairs.ClimbLine.TheVariants as climb
use Rattle.machine_model.specs.declared.copying.CopyLine.{CopyLine}
use Rattle.machine_model.specs.declared.copying.CopyLine.TheVariants as copy
use Rattle.machine_model.specs.declared.walking.WalkLine.{WalkLine}
use Rattle.machine_model.specs.declared.walking.WalkLine.TheVariants as walk
use Rattle.machine_model.specs.declared.lines.Line.{Line}
use Rattle.machine_model.specs.declared.lines.Line.TheVariants as line
use Rattle.machine_model.specs.declared.operations.Operation.{Operation}
use Rattle.machine_model.specs.Copying.{after_given}

abbrev pub at_line : Read → ReadLine → Read
at_line r x = record { indirection = r.indirection; line = x }

-- ---- the READ goes on

abbrev pub complete_on : Complete → ReadLine → Complete
complete_on c x = record { offer = c.offer; line = complete.Reading x }

abbrev pub root_on : RootLine → ReadLine → RootLine
root_on root.Read x = root.Read
root_on (root.Completing c) x = root.Completing (complete_on c x)

abbrev pub key_on : KeyLine → ReadLine → KeyLine
key_on (key.Read path r) x = key.Read path (at_line r x)
key_on l x = l

abbrev pub renew_on : RenewLine → ReadLine → RenewLine
renew_on (renew.Read path main done r) x = renew.Read path main done (at_line r x)
renew_on l x = l

abbrev pub clean_on : CleanLine → ReadLine → CleanLine
clean_on (clean.Read path r) x = clean.Read path (at_line r x)
clean_on (clean.Child path main done r) x = clean.Child path main done (at_line r x)
clean_on l x = l

abbrev pub climb_on : ClimbLine → ReadLine → ClimbLine
climb_on (climb.Read c r) x = climb.Read c (at_line r x)
climb_on (climb.Root c l) x = climb.Root c (root_on l x)
climb_on l x = l

abbrev pub copy_on : CopyLine → ReadLine → CopyLine
copy_on (copy.Read at r) x = copy.Read at (at_line r x)
copy_on (copy.Complete c) x = copy.Complete (complete_on c x)
copy_on l x = l

abbrev pub walk_on : WalkLine → ReadLine → WalkLine
walk_on (walk.Read r todo pairs) x = walk.Read (at_line r x) todo pairs
walk_on l x = l

-- the line with its READ on this one
abbrev pub on_read : Line → ReadLine → Line
on_read (line.Root l) x = line.Root (root_on l x)
on_read (line.Key l) x = line.Key (key_on l x)
on_read (line.Build l) x = line.Build l
on_read (line.Swap why s) x = line.Swap why (record s { line = swap.Deciding x })
on_read (line.Renew l) x = line.Renew (renew_on l x)
on_read (line.Clean l) x = line.Clean (clean_on l x)
on_read (line.Climb l) x = line.Climb (climb_on l x)
on_read (line.Copy l) x = line.Copy (copy_on l x)
on_read (line.Walk l) x = line.Walk (walk_on l x)
on_read (line.End answer) x = line.End answer
on_read line.Impossible x = line.Impossible

-- ---- the READ gives a main node

abbrev pub complete_given : Complete → Ref → Complete
complete_given c m = record { offer = c.offer; line = complete.Swap m }

abbrev pub root_given : RootLine → Ref → RootLine
root_given root.Read m = root.Read
root_given (root.Completing c) m = root.Completing (complete_given c m)

abbrev pub key_given : KeyLine → Ref → KeyLine
key_given (key.Read path r) m = key.Main path m
key_given l m = l

abbrev pub renew_given : RenewLine → Ref → RenewLine
renew_given (renew.Read path main done r) m = renew.Link path main done m
renew_given l m = l

abbrev pub clean_given : CleanLine → Ref → CleanLine
clean_given (clean.Read path r) m = clean.Main path m
clean_given (clean.Child path main done r) m = clean.Tomb path main done m
clean_given l m = l

abbrev pub climb_given : ClimbLine → Ref → ClimbLine
climb_given (climb.Read c r) m = climb.Main c m
climb_given (climb.Root c l) m = climb.Root c (root_given l m)
climb_given l m = l

abbrev pub copy_given : Call → CopyLine → Ref → Line
copy_given call (copy.Read at r) m = after_given call at m
copy_given call (copy.Complete c) m = line.Copy (copy.Complete (complete_given c m))
copy_given call l m = line.Copy l

abbrev pub walk_given : WalkLine → Ref → WalkLine
walk_given (walk.Read r todo pairs) m = walk.Main m todo pairs
walk_given l m = l

-- the line after its READ, which gave this main node
abbrev pub on_given : Call → Line → Ref → Line
on_given call (line.Root l) m = line.Root (root_given l m)
on_given call (line.Key l) m = line.Key (key_given l m)
on_given call (line.Build l) m = line.Build l
on_given call (line.Swap why s) m = line.Swap why (record s { line = swap.Check })
on_given call (line.Renew l) m = line.Renew (renew_given l m)
on_given call (line.Clean l) m = line.Clean (clean_given l m)
on_given call (line.Climb l) m = line.Climb (climb_given l m)
on_given call (line.Copy l) m = copy_given call l m
on_given call (line.Walk l) m = line.Walk (walk_given l m)
on_given call (line.End answer) m = line.End answer
on_given call line.Impossible m = line.Impossible

-- ---- both

abbrev pub line_by : Operation → After ReadLine Ref → Line
line_by operation (Goes x) = on_read operation.line x
line_by operation (Gives m) = on_given operation.call operation.line m

-- the operation once its READ has come to this
abbrev pub read_to : After ReadLine Ref → Operation → Operation
read_to out operation = record operation { line = line_by operation out }
