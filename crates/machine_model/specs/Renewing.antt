-- RENEW: the current indirection's branch gets indirections of the root's generation in the place of older ones. Each
-- older one is read, so what is pending there is decided, and the new one has the main node that it gave.
use Rattle.std.specs.Prelude.{nat_lt, List, [], ◌∷◌, ◌++◌, length, Option, Some, None, if◌then◌else◌}
use Rattle.history.specs.declared.replies.Reply.TheVariants as reply
use Rattle.machine_model.specs.Beneath.slot_arena.specs.declared.refs.Ref.{Ref}
use Rattle.machine_model.specs.Beneath.slot_arena.specs.declared.nodes.Node.{Node}
use Rattle.machine_model.specs.Beneath.slot_arena.specs.declared.nodes.Node.TheVariants.{Indirection, Single}
use Rattle.machine_model.specs.declared.operations.Operation.{Operation}
use Rattle.machine_model.specs.declared.reading.After.{After}
use Rattle.machine_model.specs.declared.reading.After.TheVariants.{Goes, Gives}
use Rattle.machine_model.specs.declared.reading.Read.{Read}
use Rattle.machine_model.specs.declared.repairs.RenewLine.{RenewLine}
use Rattle.machine_model.specs.declared.repairs.RenewLine.TheVariants as renew
use Rattle.machine_model.specs.declared.lines.Purpose.TheVariants as purpose
use Rattle.machine_model.specs.declared.lines.Line.{Line}
use Rattle.machine_model.specs.declared.lines.Line.TheVariants as line
use Rattle.machine_model.specs.declared.actions.Action.{Action}
use Rattle.machine_model.specs.declared.actions.Action.TheVariants as act
use Rattle.machine_model.specs.Beneath.slot_arena.specs.Heaps.{node_at, entry_at, entries_of, bitmap_of, next_ref}
use Rattle.nodes.specs.Builders.{renewed}
use Rattle.machine_model.specs.States.{State}
use Rattle.machine_model.specs.Paths.{current, start_of, is_start}
use Rattle.machine_model.specs.Lines.{impossible}
use Rattle.machine_model.specs.Reading.{read_action, read_step, reading}
use Rattle.machine_model.specs.Swapping.{swapping}

-- the next entry after those that are done, or, where all are, the branch
abbrev pub renew_next : State → List Ref → Ref → List Ref → Line
renew_next state path main done =
    if nat_lt (length done) (length (entries_of (node_at state.heap main))) then line.Renew (renew.Entry path main done) else line.Renew (renew.Branch path main done)

-- the entry that comes after those that are done
abbrev pub next_entry : State → Ref → List Ref → Ref
next_entry state main done = entry_at state.heap main (length done)

-- the branch with other entries in the same places
abbrev pub branch_of : State → Ref → List Ref → Node
branch_of state main entries = renewed (bitmap_of (node_at state.heap main)) entries

-- what its step does
abbrev pub renew_action : State → Operation → RenewLine → Action
renew_action state operation (renew.Entry path main done) = act.Look (next_entry state main done)
renew_action state operation (renew.Read path main done read) = read_action read.indirection read.line
renew_action state operation (renew.Link path main done child) = act.Make (Indirection (start_of operation) child)
renew_action state operation (renew.Branch path main done) = act.Make (branch_of state main done)

-- an indirection of another generation is read, any other entry is kept
abbrev pub renew_after_entry : State → Operation → List Ref → Ref → List Ref → Ref → Node → Line
renew_after_entry state operation path main done entry (Indirection generation word) =
    if is_start operation generation then renew_next state path main (done ++ entry ∷ []) else line.Renew (renew.Read path main done (reading entry))
renew_after_entry state operation path main done entry (Single k v) = renew_next state path main (done ++ entry ∷ [])
renew_after_entry state operation path main done entry node = impossible

abbrev pub renew_after_read : List Ref → Ref → List Ref → After Read Ref → Line
renew_after_read path main done (Goes read) = line.Renew (renew.Read path main done read)
renew_after_read path main done (Gives child) = line.Renew (renew.Link path main done child)

abbrev pub renew_after_link : State → List Ref → Ref → List Ref → Option Ref → Line
renew_after_link state path main done None = line.End reply.NoSlots
renew_after_link state path main done (Some made) = renew_next state path main (done ++ made ∷ [])

abbrev pub renew_after_branch : List Ref → Ref → Option Ref → Line
renew_after_branch path main None = line.End reply.NoSlots
renew_after_branch path main (Some made) = line.Swap (purpose.Renew path) (swapping (current path) main made)

-- what comes after a step of RENEW
abbrev pub renew_after : State → Operation → RenewLine → Line
renew_after state operation (renew.Entry path main done) =
    renew_after_entry state operation path main done (next_entry state main done) (node_at state.heap (next_entry state main done))
renew_after state operation (renew.Read path main done read) = renew_after_read path main done (read_step state operation read)
renew_after state operation (renew.Link path main done child) = renew_after_link state path main done (next_ref state.heap)
renew_after state operation (renew.Branch path main done) = renew_after_branch path main (next_ref state.heap)
