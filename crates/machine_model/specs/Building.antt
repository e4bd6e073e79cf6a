-- The nodes that a change of one key makes, and the SWAP of the last one.
use Rattle.std.specs.Prelude.{ℕ, ◌+◌, ◌-◌, ◌==◌, List, Option, Some, None, if◌then◌else◌}
use Rattle.history.specs.declared.replies.Reply.TheVariants as reply
use Rattle.machine_model.specs.Beneath.slot_arena.specs.declared.refs.Ref.{Ref}
use Rattle.machine_model.specs.Beneath.slot_arena.specs.declared.nodes.Node.{Node}
use Rattle.machine_model.specs.Beneath.slot_arena.specs.declared.nodes.Node.TheVariants.{Indirection, Branch, Single, Tomb, List as Listed}
use Rattle.machine_model.specs.Beneath.slot_arena.specs.Heaps.{node_at, entry_at, next_ref}
use Rattle.nodes.specs.Levels.{list_depth, parting}
use Rattle.nodes.specs.Builders.{inserted, updated, removed, list_inserted, list_updated, list_removed, pair, rung}
use Rattle.machine_model.specs.declared.operations.Operation.{Operation}
use Rattle.machine_model.specs.declared.building.Site.{Site}
use Rattle.machine_model.specs.declared.building.Site.TheVariants as site
use Rattle.machine_model.specs.declared.building.Change.{Change}
use Rattle.machine_model.specs.declared.building.Change.TheVariants as change
use Rattle.machine_model.specs.declared.building.BuildLine.{BuildLine}
use Rattle.machine_model.specs.declared.building.BuildLine.TheVariants as build
use Rattle.machine_model.specs.declared.lines.Purpose.TheVariants as purpose
use Rattle.machine_model.specs.declared.lines.Line.{Line}
use Rattle.machine_model.specs.declared.lines.Line.TheVariants as line
use Rattle.machine_model.specs.declared.actions.Action.{Action}
use Rattle.machine_model.specs.declared.actions.Action.TheVariants as act
use Rattle.machine_model.specs.Calls.{key_of, value_of}
use Rattle.machine_model.specs.States.{State, key_hash}
use Rattle.machine_model.specs.Paths.{current, depth_of, flag_in, hash_in, start_of}
use Rattle.machine_model.specs.Swapping.{swapping}

-- ---- a main node after a change; flag is that of the call's key

abbrev pub changed_branch : ℕ → ℕ → List Ref → Change → Node
changed_branch flag bitmap entries (change.Insert single) = inserted flag bitmap entries single
changed_branch flag bitmap entries (change.Update position entry) = updated bitmap entries position entry
changed_branch flag bitmap entries (change.Remove position) = removed flag bitmap entries position
changed_branch flag bitmap entries (change.Entomb single) = Tomb single

abbrev pub changed_list : List Ref → Change → Node
changed_list singles (change.Insert single) = list_inserted singles single
changed_list singles (change.Update position single) = list_updated singles position single
changed_list singles (change.Remove position) = list_removed singles position
changed_list singles (change.Entomb single) = Tomb single

abbrev pub changed : ℕ → Node → Change → Node
changed flag (Branch bitmap entries) c = changed_branch flag bitmap entries.items c
changed flag (Listed singles) c = changed_list singles.items c
changed flag node c = node

-- ---- two singles whose paths part below

-- the depth of the main node of two keys of these hashes that stood in one place of a branch of this depth
abbrev pub pair_depth : State → ℕ → ℕ → ℕ → ℕ
pair_depth state a b depth = parting (list_depth state.limits.hash - (depth + 1)) a b (depth + 1)

abbrev pub key_in : Node → ℕ
key_in (Single k v) = k
key_in node = 0

-- the hash of the single at a position of a branch
abbrev pub old_hash : State → Ref → ℕ → ℕ
old_hash state main position = key_hash state (key_in (node_at state.heap (entry_at state.heap main position)))

-- ---- what its step does

abbrev pub build_action : State → Operation → BuildLine → Action
build_action state operation (build.Single path main site former) = act.Make (Single (key_of operation.call) (value_of operation.call))
build_action state operation (build.Pair path main position single depth) =
    act.Make (pair state.limits.hash depth (old_hash state main position) (hash_in state operation) (entry_at state.heap main position) single)
build_action state operation (build.Link path main position below depth) = act.Make (Indirection (start_of operation) below)
build_action state operation (build.Rung path main position below depth) =
    act.Make (rung (hash_in state operation) depth below)
build_action state operation (build.Main path main c former) =
    act.Make (changed (flag_in state operation path) (node_at state.heap main) c)

-- ---- what comes after it, with the slot that was made

abbrev pub after_single : State → Operation → List Ref → Ref → Option ℕ → Site → Ref → Line
after_single state operation path main former site.Absent made = line.Build (build.Main path main (change.Insert made) former)
after_single state operation path main former (site.At position) made = line.Build (build.Main path main (change.Update position made) former)
after_single state operation path main former (site.Beside position) made =
    line.Build (build.Pair path main position made (pair_depth state (old_hash state main position) (hash_in state operation) (depth_of path)))

-- the topmost indirection goes into the main node, any other into a branch one higher
abbrev pub after_link : List Ref → Ref → ℕ → ℕ → Ref → Line
after_link path main position depth made =
    if depth == depth_of path + 1 then line.Build (build.Main path main (change.Update position made) None) else line.Build (build.Rung path main position made (depth - 1))

abbrev pub build_after_made : State → Operation → BuildLine → Ref → Line
build_after_made state operation (build.Single path main site former) made = after_single state operation path main former site made
build_after_made state operation (build.Pair path main position single depth) made = line.Build (build.Link path main position made depth)
build_after_made state operation (build.Link path main position below depth) made = after_link path main position depth made
build_after_made state operation (build.Rung path main position below depth) made = line.Build (build.Link path main position made depth)
build_after_made state operation (build.Main path main c former) made = line.Swap (purpose.Update path former) (swapping (current path) main made)

abbrev pub build_if_made : State → Operation → BuildLine → Option Ref → Line
build_if_made state operation step None = line.End reply.NoSlots
build_if_made state operation step (Some made) = build_after_made state operation step made

-- what comes after a step that makes a node; where no slot is free the operation ends without effect
abbrev pub build_after : State → Operation → BuildLine → Line
build_after state operation step = build_if_made state operation step (next_ref state.heap)
