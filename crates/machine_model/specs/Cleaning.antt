-- CLEAN: below an indirection tombs give way to their singles. Each indirection there is read, so what is pending is
-- decided. The operation starts anew afterwards, whatever came of it.
use Rattle.std.specs.Prelude.{◌&&◌, Bool, true, false, nat_eq, nat_lt, List, [], ◌∷◌, ◌++◌, length, Option, Some, None, if◌then◌else◌}
use lib.Pointwise.{pointwise}
use Rattle.history.specs.declared.replies.Reply.TheVariants as reply
use Rattle.machine_model.specs.Beneath.slot_arena.specs.declared.refs.Ref.{Ref}
use Rattle.machine_model.specs.Beneath.slot_arena.specs.declared.nodes.Node.{Node}
use Rattle.machine_model.specs.Beneath.slot_arena.specs.declared.nodes.Node.TheVariants.{Indirection, Branch, Single, Tomb}
use Rattle.machine_model.specs.declared.operations.Operation.{Operation}
use Rattle.machine_model.specs.declared.reading.After.{After}
use Rattle.machine_model.specs.declared.reading.After.TheVariants.{Goes, Gives}
use Rattle.machine_model.specs.declared.reading.Read.{Read}
use Rattle.machine_model.specs.declared.repairs.CleanLine.{CleanLine}
use Rattle.machine_model.specs.declared.repairs.CleanLine.TheVariants as clean
use Rattle.machine_model.specs.declared.lines.Purpose.TheVariants as purpose
use Rattle.machine_model.specs.declared.lines.Line.{Line}
use Rattle.machine_model.specs.declared.lines.Line.TheVariants as line
use Rattle.machine_model.specs.declared.actions.Action.{Action}
use Rattle.machine_model.specs.declared.actions.Action.TheVariants as act
use Rattle.machine_model.specs.Beneath.slot_arena.specs.Heaps.{node_at, entries_of, bitmap_of, next_ref}
use Rattle.nodes.specs.Builders.{contracted}
use Rattle.machine_model.specs.States.{State}
use Rattle.machine_model.specs.Paths.{current, is_below_root}
use Rattle.machine_model.specs.Reading.{read_action, read_step, reading}
use Rattle.machine_model.specs.Swapping.{swapping}
use Rattle.machine_model.specs.Renewing.{next_entry}
use Rattle.machine_model.specs.Lines.{new_try, impossible}

-- the next entry after those that are done; where all are, the new main node, if an entry changed
abbrev pub clean_next : State → List Ref → Ref → List Ref → Line
clean_next state path main done =
    if nat_lt (length done) (length (entries_of (node_at state.heap main))) then line.Clean (clean.Entry path main done)
    else (if pointwise nat_eq done (entries_of (node_at state.heap main)) then new_try else line.Clean (clean.Contracted path main done))

abbrev pub is_single : Node → Bool
is_single (Single k v) = true
is_single node = false

-- one single alone is left
abbrev pub leaves_single : State → List Ref → Bool
leaves_single state (entry ∷ []) = is_single (node_at state.heap entry)
leaves_single state entries = false

-- below the root a tomb where one single alone is left, else the branch with these entries
abbrev pub cleaned : State → List Ref → Ref → List Ref → Node
cleaned state path main entries = contracted (is_below_root path && leaves_single state entries) (bitmap_of (node_at state.heap main)) entries

-- what its step does
abbrev pub clean_action : State → CleanLine → Action
clean_action state (clean.Read path read) = read_action read.indirection read.line
clean_action state (clean.Main path main) = act.Look main
clean_action state (clean.Entry path main done) = act.Look (next_entry state main done)
clean_action state (clean.Child path main done read) = read_action read.indirection read.line
clean_action state (clean.Tomb path main done child) = act.Look child
clean_action state (clean.Contracted path main done) = act.Make (cleaned state path main done)

abbrev pub clean_after_read : List Ref → After Read Ref → Line
clean_after_read path (Goes read) = line.Clean (clean.Read path read)
clean_after_read path (Gives main) = line.Clean (clean.Main path main)

-- only a branch is cleaned
abbrev pub clean_after_main : State → List Ref → Ref → Node → Line
clean_after_main state path main (Branch bitmap entries) = clean_next state path main []
clean_after_main state path main node = new_try

-- an indirection is read, a single is kept
abbrev pub clean_after_entry : State → List Ref → Ref → List Ref → Ref → Node → Line
clean_after_entry state path main done entry (Indirection generation word) = line.Clean (clean.Child path main done (reading entry))
clean_after_entry state path main done entry (Single k v) = clean_next state path main (done ++ entry ∷ [])
clean_after_entry state path main done entry node = impossible

abbrev pub after_child : List Ref → Ref → List Ref → After Read Ref → Line
after_child path main done (Goes read) = line.Clean (clean.Child path main done read)
after_child path main done (Gives child) = line.Clean (clean.Tomb path main done child)

-- a tomb's single takes the entry's place, any other entry is kept
abbrev pub clean_after_tomb : State → List Ref → Ref → List Ref → Node → Line
clean_after_tomb state path main done (Tomb single) = clean_next state path main (done ++ single ∷ [])
clean_after_tomb state path main done node = clean_next state path main (done ++ next_entry state main done ∷ [])

abbrev pub clean_after_contracted : List Ref → Ref → Option Ref → Line
clean_after_contracted path main None = line.End reply.NoSlots
clean_after_contracted path main (Some made) = line.Swap purpose.Clean (swapping (current path) main made)

-- what comes after a step of CLEAN
abbrev pub clean_after : State → Operation → CleanLine → Line
clean_after state operation (clean.Read path read) = clean_after_read path (read_step state operation read)
clean_after state operation (clean.Main path main) = clean_after_main state path main (node_at state.heap main)
clean_after state operation (clean.Entry path main done) =
    clean_after_entry state path main done (next_entry state main done) (node_at state.heap (next_entry state main done))
clean_after state operation (clean.Child path main done read) = after_child path main done (read_step state operation read)
clean_after state operation (clean.Tomb path main done child) = clean_after_tomb state path main done (node_at state.heap child)
clean_after state operation (clean.Contracted path main done) = clean_after_contracted path main (next_ref state.heap)
