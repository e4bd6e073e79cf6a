-- A running operation: what its next step does, of which kind it is, and on which line the operation stands after it. All of
-- this, here and in the programs' own files, is computed from the state before the step.
use Rattle.std.specs.Prelude.{◌≡◌, ℕ, Bool, true, false, List, [], Option, Some, None}
use Rattle.machine_model.specs.Beneath.ctrie_base.specs.declared.kinds.Kind.{Kind}
use Rattle.machine_model.specs.Beneath.ctrie_base.specs.declared.kinds.Kind.TheVariants as kind
use Rattle.history.specs.declared.calls.Call.{Call}
use Rattle.history.specs.declared.calls.Call.TheVariants.{Clear, Snapshot, Freeze, Close, Entries, Count}
use Rattle.history.specs.declared.replies.Reply.TheVariants as reply
use Rattle.machine_model.specs.Beneath.slot_arena.specs.declared.refs.Ref.{Ref}
use Rattle.machine_model.specs.Beneath.slot_arena.specs.declared.nodes.Node.{Node}
use Rattle.machine_model.specs.Beneath.slot_arena.specs.declared.nodes.Node.TheVariants.{Tomb}
use Rattle.machine_model.specs.declared.operations.Operation.{Operation}
use Rattle.machine_model.specs.declared.reading.After.{After}
use Rattle.machine_model.specs.declared.reading.After.TheVariants.{Goes, Gives}
use Rattle.machine_model.specs.declared.reading.Read.{Read}
use Rattle.machine_model.specs.declared.reading.ReadLine.{ReadLine}
use Rattle.machine_model.specs.declared.reading.Swap.{Swap}
use Rattle.machine_model.specs.declared.reading.SwapLine.{SwapLine}
use Rattle.machine_model.specs.declared.reading.SwapLine.TheVariants as swap
use Rattle.machine_model.specs.declared.roots.CompleteLine.{CompleteLine}
use Rattle.machine_model.specs.declared.roots.CompleteLine.TheVariants as complete
use Rattle.machine_model.specs.declared.roots.Descriptor.{Descriptor}
use Rattle.machine_model.specs.declared.roots.RootLine.{RootLine}
use Rattle.machine_model.specs.declared.roots.RootLine.TheVariants as root
use Rattle.machine_model.specs.declared.finding.KeyLine.{KeyLine}
use Rattle.machine_model.specs.declared.finding.KeyLine.TheVariants as key
use Rattle.machine_model.specs.declared.repairs.RenewLine.{RenewLine}
use Rattle.machine_model.specs.declared.repairs.RenewLine.TheVariants as renew
use Rattle.machine_model.specs.declared.repairs.CleanLine.{CleanLine}
use Rattle.machine_model.specs.declared.repairs.CleanLine.TheVariants as clean
use Rattle.machine_model.specs.declared.repairs.ClimbLine.{ClimbLine}
use Rattle.machine_model.specs.declared.repairs.ClimbLine.TheVariants as climb
use Rattle.machine_model.specs.declared.repairs.Climb.{Climb}
use Rattle.machine_model.specs.declared.copying.CopyLine.{CopyLine}
use Rattle.machine_model.specs.declared.copying.CopyLine.TheVariants as copy
use Rattle.machine_model.specs.declared.walking.WalkLine.{WalkLine}
use Rattle.machine_model.specs.declared.walking.WalkLine.TheVariants as walk
use Rattle.machine_model.specs.declared.lines.Purpose.{Purpose}
use Rattle.machine_model.specs.declared.lines.Purpose.TheVariants as purpose
use Rattle.machine_model.specs.declared.lines.Line.{Line}
use Rattle.machine_model.specs.declared.lines.Line.TheVariants as line
use Rattle.machine_model.specs.declared.actions.Action.{Action}
use Rattle.machine_model.specs.declared.actions.Action.TheVariants as act
use Rattle.machine_model.specs.Beneath.slot_arena.specs.Heaps.{node_at, generation_at}
use Rattle.machine_model.specs.Calls.{handle_of}
use Rattle.machine_model.specs.States.{State, word_at}
use Rattle.machine_model.specs.Paths.{current}
use Rattle.machine_model.specs.Reading.{reading, read_action}
use Rattle.machine_model.specs.Swapping.{swap_action, swap_after, root_action, root_after}
use Rattle.machine_model.specs.Renewing.{renew_action, renew_after}
use Rattle.machine_model.specs.Lines.{new_try, impossible}
use Rattle.machine_model.specs.Finding.{key_action, key_after, going_down}
use Rattle.machine_model.specs.Building.{build_action, build_after}
use Rattle.machine_model.specs.Cleaning.{clean_action, clean_after}
use Rattle.machine_model.specs.Climbing.{climb_action, climb_after, climbing, higher, climbed}
use Rattle.machine_model.specs.Copying.{copy_action, copy_after}
use Rattle.machine_model.specs.Walking.{walk_action, walk_after}

-- ---- where an operation begins

abbrev pub first_line : Call → Line
first_line (Entries h) = line.Walk walk.Root
first_line (Count h) = line.Walk walk.Root
first_line (Close h) = line.End reply.Closed
first_line call = new_try

-- ---- what its next step does

abbrev pub line_action : State → Operation → Line → Action
line_action state operation (line.Root l) = root_action l
line_action state operation (line.Key l) = key_action state l
line_action state operation (line.Build l) = build_action state operation l
line_action state operation (line.Swap why s) = swap_action s
line_action state operation (line.Renew l) = renew_action state operation l
line_action state operation (line.Clean l) = clean_action state l
line_action state operation (line.Climb l) = climb_action state operation l
line_action state operation (line.Copy l) = copy_action l
line_action state operation (line.Walk l) = walk_action l
line_action state operation (line.End answer) = act.End answer
line_action state operation line.Impossible = act.ReadRoot

abbrev pub action_of : State → Operation → Action
action_of state operation = line_action state operation operation.line

-- the kind of a step is that of what it does
abbrev pub kind_of : Action → Kind
kind_of act.ReadRoot = kind.ReadRoot
kind_of (act.Abort offer) = kind.SwapRoot
kind_of (act.Offer offer) = kind.SwapRoot
kind_of (act.Complete offer main) = kind.SwapRoot
kind_of (act.ReadMain indirection) = kind.ReadMain
kind_of (act.Publish indirection replaced fresh) = kind.SwapMain
kind_of (act.Restore indirection main previous) = kind.SwapMain
kind_of (act.ReadPrev main) = kind.ReadPrev
kind_of (act.Decide indirection main previous root_seen) = kind.SwapPrev
kind_of (act.Look at) = kind.Look
kind_of (act.Make node) = kind.Make
kind_of (act.MakeRoot main) = kind.Make
kind_of (act.End answer) = kind.End

-- ---- where it stands afterwards

-- below the root: KEY reads it, COPY too
abbrev pub from_root : Call → Ref → Line
from_root (Clear h) r = line.Copy (copy.Read r (reading r))
from_root (Snapshot h) r = line.Copy (copy.Read r (reading r))
from_root (Freeze h) r = line.Copy (copy.Read r (reading r))
from_root call r = going_down [] r

abbrev pub after_root : Operation → After RootLine Ref → Line
after_root operation (Goes l) = line.Root l
after_root operation (Gives r) = from_root operation.call r

-- a removal that swapped in a tomb climbs; any other change is answered
abbrev pub after_update : Operation → List Ref → Option ℕ → Node → Line
after_update operation path former (Tomb single) = climbing operation (record { path = path; single = single; former = former })
after_update operation path former node = climbed operation former

-- after a climb's swap: a tomb that was made there climbs on
abbrev pub climbed_on : Operation → Climb → Node → Line
climbed_on operation c (Tomb single) = climbing operation (higher c c.single)
climbed_on operation c node = climbed operation c.former

-- after the SWAP of this node, by whether it succeeded
abbrev pub swapped : Operation → Node → Purpose → Bool → Line
swapped operation node (purpose.Update path former) true = after_update operation path former node
swapped operation node (purpose.Update path former) false = new_try
swapped operation node (purpose.Renew path) true = line.Key (key.Read path (reading (current path)))
swapped operation node (purpose.Renew path) false = new_try
swapped operation node purpose.Clean done = new_try
swapped operation node (purpose.Climb c) true = climbed_on operation c node
swapped operation node (purpose.Climb c) false = line.Climb (climb.Root c root.Read)

abbrev pub after_swap : State → Operation → Purpose → Swap → After Swap Bool → Line
after_swap state operation why s (Goes next) = line.Swap why next
after_swap state operation why s (Gives done) = swapped operation (node_at state.heap s.fresh) why done

abbrev pub line_after : State → Operation → Line → Line
line_after state operation (line.Root l) = after_root operation (root_after state.heap operation.access (word_at state (handle_of operation.call)) l)
line_after state operation (line.Key l) = key_after state operation l
line_after state operation (line.Build l) = build_after state operation l
line_after state operation (line.Swap why s) =
    after_swap state operation why s (swap_after state.heap operation.access (word_at state (handle_of operation.call)) s)
line_after state operation (line.Renew l) = renew_after state operation l
line_after state operation (line.Clean l) = clean_after state operation l
line_after state operation (line.Climb l) = climb_after state operation l
line_after state operation (line.Copy l) = copy_after state operation l
line_after state operation (line.Walk l) = walk_after state operation l
line_after state operation (line.End answer) = line.End answer
line_after state operation line.Impossible = impossible

-- ---- the READ that it takes, and the generation of its root

abbrev pub completing_read : Descriptor → CompleteLine → Option Read
completing_read offer (complete.Reading l) = Some (record { indirection = offer.root; line = l })
completing_read offer (complete.Swap main) = None

abbrev pub rooting_read : RootLine → Option Read
rooting_read root.Read = None
rooting_read (root.Completing c) = completing_read c.offer c.line

abbrev pub swapping_read : Ref → SwapLine → Option Read
swapping_read indirection swap.Publish = None
swapping_read indirection (swap.Deciding l) = Some (record { indirection = indirection; line = l })
swapping_read indirection swap.Check = None

abbrev pub keying_read : KeyLine → Option Read
keying_read (key.Read path r) = Some r
keying_read l = None

abbrev pub renewing_read : RenewLine → Option Read
renewing_read (renew.Read path main done r) = Some r
renewing_read l = None

abbrev pub cleaning_read : CleanLine → Option Read
cleaning_read (clean.Read path r) = Some r
cleaning_read (clean.Child path main done r) = Some r
cleaning_read l = None

abbrev pub climbing_read : ClimbLine → Option Read
climbing_read (climb.Read c r) = Some r
climbing_read (climb.Root c l) = rooting_read l
climbing_read l = None

abbrev pub copying_read : CopyLine → Option Read
copying_read (copy.Read r read) = Some read
copying_read (copy.Complete c) = completing_read c.offer c.line
copying_read l = None

abbrev pub walking_read : WalkLine → Option Read
walking_read (walk.Read r todo taken) = Some r
walking_read l = None

-- the READ in which the operation is, if it is in one
abbrev pub read_of : Line → Option Read
read_of (line.Root l) = rooting_read l
read_of (line.Key l) = keying_read l
read_of (line.Build l) = None
read_of (line.Swap why s) = swapping_read s.indirection s.line
read_of (line.Renew l) = renewing_read l
read_of (line.Clean l) = cleaning_read l
read_of (line.Climb l) = climbing_read l
read_of (line.Copy l) = copying_read l
read_of (line.Walk l) = walking_read l
read_of (line.End answer) = None
read_of line.Impossible = None

-- The lines of a READ of this indirection within a program: its READ is that one, and a step of it is the READ's, whichever line that is on.
pub record EmbedsRead (wrap : ReadLine → Line) (indirection : Ref) : Type 0 where
  pub reads : (l : ReadLine) → read_of (wrap l) ≡ Some (record { indirection = indirection; line = l })
  pub acts : (state : State) (operation : Operation) (l : ReadLine) → line_action state operation (wrap l) ≡ read_action indirection l

abbrev pub given_root : State → After RootLine Ref → Option ℕ → Option ℕ
given_root state (Goes l) generation = generation
given_root state (Gives r) generation = Some (generation_at state.heap r)

abbrev pub generation_from : State → Operation → Line → Option ℕ
generation_from state operation (line.Root l) =
    given_root state (root_after state.heap operation.access (word_at state (handle_of operation.call)) l) operation.generation
generation_from state operation l = operation.generation

-- the generation of the root that ROOT gave last in the program's first line
abbrev pub generation_after : State → Operation → Option ℕ
generation_after state operation = generation_from state operation operation.line
