-- CLIMB: after a removal that left a tomb, the tomb gives way to its single in the parent, and so on upwards. It is given
-- up where no slot is free or the root has another generation by now; the tomb may then stay.
use Rattle.std.specs.Prelude.{ℕ, ◌==◌, ◌&&◌, Bool, List, slice_set, slice_index_or, Option, Some, None, if◌then◌else◌}
use Rattle.machine_model.specs.Beneath.ctrie_base.specs.Paths.{position_of}
use Rattle.machine_model.specs.Beneath.slot_arena.specs.declared.refs.Ref.{Ref}
use Rattle.machine_model.specs.Beneath.slot_arena.specs.declared.nodes.Node.{Node}
use Rattle.machine_model.specs.Beneath.slot_arena.specs.declared.nodes.Node.TheVariants.{Branch, Tomb}
use Rattle.machine_model.specs.declared.operations.Operation.{Operation}
use Rattle.machine_model.specs.declared.reading.After.{After}
use Rattle.machine_model.specs.declared.reading.After.TheVariants.{Goes, Gives}
use Rattle.machine_model.specs.declared.reading.Read.{Read}
use Rattle.machine_model.specs.declared.roots.RootLine.{RootLine}
use Rattle.machine_model.specs.declared.repairs.Climb.{Climb}
use Rattle.machine_model.specs.declared.repairs.ClimbLine.{ClimbLine}
use Rattle.machine_model.specs.declared.repairs.ClimbLine.TheVariants as climb
use Rattle.machine_model.specs.declared.lines.Purpose.TheVariants as purpose
use Rattle.machine_model.specs.declared.lines.Line.{Line}
use Rattle.machine_model.specs.declared.lines.Line.TheVariants as line
use Rattle.machine_model.specs.declared.actions.Action.{Action}
use Rattle.machine_model.specs.declared.actions.Action.TheVariants as act
use Rattle.machine_model.specs.Beneath.slot_arena.specs.Heaps.{node_at, generation_at, entries_of, bitmap_of, next_ref, no_ref}
use Rattle.nodes.specs.Levels.{has_flag}
use Rattle.nodes.specs.Builders.{contracted}
use Rattle.machine_model.specs.Calls.{changed_reply, handle_of}
use Rattle.machine_model.specs.States.{State, word_at}
use Rattle.machine_model.specs.Paths.{current, above, is_below_root, flag_in, is_start}
use Rattle.machine_model.specs.Lines.{impossible}
use Rattle.machine_model.specs.Reading.{read_action, read_step, reading}
use Rattle.machine_model.specs.Swapping.{swapping, root_action, root_after}

-- the removal stands, and is answered
abbrev pub climbed : Operation → Option ℕ → Line
climbed operation former = line.End (changed_reply operation.call former)

-- the path's last indirection is tombed, with this single: reads its parent, if it has one
abbrev pub climbing : Operation → Climb → Line
climbing operation c =
    if is_below_root c.path then line.Climb (climb.Read c (reading (current (above c.path)))) else climbed operation c.former

-- the same one indirection further up
abbrev pub higher : Climb → Ref → Climb
higher c single = record c { path = above c.path; single = single }

-- the position of the parent's entry for the call's key
abbrev pub place_in : State → Operation → Climb → Ref → ℕ
place_in state operation c main = position_of (flag_in state operation (above c.path)) (bitmap_of (node_at state.heap main))

-- the parent's main node with the single in the tomb's place; below the root, where it is the only entry, a tomb of it
abbrev pub climbed_node : State → Operation → Climb → Ref → Node
climbed_node state operation c main =
    contracted (is_below_root (above c.path)) (bitmap_of (node_at state.heap main)) (slice_set (entries_of (node_at state.heap main)) (place_in state operation c main) c.single)

-- what its step does
abbrev pub climb_action : State → Operation → ClimbLine → Action
climb_action state operation (climb.Read c read) = read_action read.indirection read.line
climb_action state operation (climb.Main c main) = act.Look main
climb_action state operation (climb.Contracted c main) = act.Make (climbed_node state operation c main)
climb_action state operation (climb.Root c root) = root_action root

abbrev pub climb_after_read : Climb → After Read Ref → Line
climb_after_read c (Goes read) = line.Climb (climb.Read c read)
climb_after_read c (Gives main) = line.Climb (climb.Main c main)

-- the branch's entry for the call's key is the tombed indirection
abbrev pub holds_it : State → Operation → Climb → Ref → ℕ → List Ref → Bool
holds_it state operation c main bitmap entries =
    has_flag bitmap (flag_in state operation (above c.path)) && (slice_index_or entries (place_in state operation c main) no_ref == current c.path)

abbrev pub climb_after_main : State → Operation → Climb → Ref → Node → Line
climb_after_main state operation c main (Tomb single) = climbing operation (higher c single)
climb_after_main state operation c main (Branch bitmap entries) =
    if holds_it state operation c main bitmap entries.items then line.Climb (climb.Contracted c main) else climbed operation c.former
climb_after_main state operation c main node = impossible

abbrev pub climb_after_contracted : Operation → Climb → Ref → Option Ref → Line
climb_after_contracted operation c main None = climbed operation c.former
climb_after_contracted operation c main (Some made) = line.Swap (purpose.Climb c) (swapping (current (above c.path)) main made)

-- it goes on where the root is still of the generation in which the operation began its try
abbrev pub climb_after_root : State → Operation → Climb → After RootLine Ref → Line
climb_after_root state operation c (Goes root) = line.Climb (climb.Root c root)
climb_after_root state operation c (Gives r) = if is_start operation (generation_at state.heap r) then climbing operation c else climbed operation c.former

-- what comes after a step of CLIMB
abbrev pub climb_after : State → Operation → ClimbLine → Line
climb_after state operation (climb.Read c read) = climb_after_read c (read_step state operation read)
climb_after state operation (climb.Main c main) = climb_after_main state operation c main (node_at state.heap main)
climb_after state operation (climb.Contracted c main) = climb_after_contracted operation c main (next_ref state.heap)
climb_after state operation (climb.Root c root) =
    climb_after_root state operation c (root_after state.heap operation.access (word_at state (handle_of operation.call)) root)
