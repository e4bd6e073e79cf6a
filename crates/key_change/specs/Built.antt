-- The nodes that a change of one key makes, as the definition's.
use Rattle.std.specs.Prelude.{ℕ, List}
use Rattle.key_change.specs.Beneath.history.specs.declared.calls.Access.TheVariants.{Writable}
use Rattle.key_change.specs.Beneath.slot_arena.specs.declared.refs.Ref.{Ref}
use Rattle.key_change.specs.Beneath.slot_arena.specs.declared.nodes.Node.{Node}
use Rattle.key_change.specs.Beneath.slot_arena.specs.Heaps.{Heap, empty_branch}
use Rattle.key_change.specs.Beneath.machine_model.specs.declared.actions.Action.{Action}
use Rattle.key_change.specs.Beneath.machine_model.specs.declared.actions.Action.TheVariants as act
use Rattle.key_change.specs.Beneath.machine_model.specs.declared.building.BuildLine.{BuildLine}
use Rattle.key_change.specs.Beneath.machine_model.specs.declared.building.BuildLine.TheVariants as build
use Rattle.key_change.specs.Beneath.machine_model.specs.declared.building.Site.TheVariants as site
use Rattle.key_change.specs.Beneath.machine_model.specs.declared.operations.Operation.{Operation}
use Rattle.key_change.specs.Beneath.machine_model.specs.Building.{build_action, pair_depth, old_hash}
use Rattle.key_change.specs.Beneath.machine_model.specs.Paths.{depth_of, hash_in}
use Rattle.key_change.specs.Beneath.machine_model.specs.States.{State}
use Rattle.trie_parts.specs.declared.calls.Task.{Task}
use Rattle.trie_parts.specs.Here.{at_heap, no_state, no_operation}
use Rattle.trie_parts.specs.Tasks.{for_task}
use Rattle.key_change.specs.declared.building.Building.{Building}
use Rattle.key_change.specs.declared.building.Building.TheVariants as at

-- the definition's line of a step that makes a node, at the end of this path and for a change of this main node
abbrev pub build_line : List Ref → Ref → Building → BuildLine
build_line path main (at.Single site former) = build.Single path main site former
build_line path main (at.Pair position single depth) = build.Pair path main position single depth
build_line path main (at.Link position below depth) = build.Link path main position below depth
build_line path main (at.Rung position below depth) = build.Rung path main position below depth
build_line path main (at.Main change former) = build.Main path main change former

abbrev pub made_by : Action → Node
made_by (act.Make node) = node
made_by action = empty_branch

-- the node that is made on a line
abbrev pub built : Heap → Task → BuildLine → Node
built heap task line = made_by (build_action (at_heap no_state heap task.hashes) (for_task task Writable no_operation) line)

-- the depth at which the new single and the one in whose place it is to stand part, on the line on which that is asked for
abbrev pub depth_for : State → Operation → BuildLine → ℕ
depth_for state operation (build.Single path main (site.Beside position) former) = pair_depth state (old_hash state main position) (hash_in state operation) (depth_of path)
depth_for state operation line = 0
