-- What is made on a line depends on nothing of the state but heap and hashes, and on nothing of the operation but its task.
use Rattle.std.specs.Prelude.{◌≡◌, List, refl}
use Rattle.key_change.specs.Beneath.history.specs.declared.calls.Access.{Access}
use Rattle.key_change.specs.Beneath.slot_arena.specs.declared.refs.Ref.{Ref}
use Rattle.key_change.specs.Beneath.slot_arena.specs.Heaps.{Heap, node_at, entry_at}
use Rattle.key_change.specs.Beneath.machine_model.specs.declared.actions.Action.TheVariants as act
use Rattle.key_change.specs.Beneath.machine_model.specs.declared.operations.Operation.{Operation}
use Rattle.key_change.specs.Beneath.machine_model.specs.Building.{build_action, changed, key_in}
use Rattle.std.proofs.Common.{ap, ◌∙◌}
use Rattle.key_change.specs.Beneath.ctrie_base.specs.Hashes.{hash_of}
use Rattle.key_change.specs.Beneath.nodes.specs.Builders.{pair, rung}
use Rattle.key_change.specs.Beneath.nodes.specs.Levels.{flag_of}
use Rattle.key_change.specs.Beneath.slot_arena.specs.declared.nodes.Node.TheVariants.{Single}
use Rattle.key_change.specs.Beneath.machine_model.specs.Calls.{handle_of, key_of, value_of}
use Rattle.key_change.specs.Beneath.machine_model.specs.Paths.{depth_of}
use Rattle.key_change.specs.Beneath.machine_model.specs.States.{State}
use Rattle.trie_parts.specs.declared.calls.Task.{Task}
use Rattle.trie_parts.specs.Here.{at_heap}
use Rattle.trie_parts.proofs.Handles.{key_same, value_same}
use Rattle.trie_parts.specs.Tasks.{call_of, for_task}
use Rattle.key_change.specs.declared.building.Building.{Building}
use Rattle.key_change.specs.declared.building.Building.TheVariants as at
use Rattle.key_change.specs.Built.{build_line, built}

-- the node is that of every state and operation
pub builds : (heap : Heap) (task : Task) (access : Access) (path : List Ref) (main : Ref) (building : Building) (state : State) (operation : Operation) →
    build_action (at_heap state heap task.hashes) (for_task task access operation) (build_line path main building) ≡ act.Make (built heap task (build_line path main building))
builds heap task access path main (at.Single site former) state operation =
    ap (λ k. act.Make (Single k (value_of (call_of (handle_of operation.call) task.call)))) (key_same task.call (handle_of operation.call) 0)
    ∙ ap (λ v. act.Make (Single (key_of (call_of 0 task.call)) v)) (value_same task.call (handle_of operation.call) 0)
builds heap task access path main (at.Pair position single depth) state operation =
    let entry = entry_at heap main position in
    let old_hash = hash_of task.hashes (key_in (node_at heap entry)) in
    ap (λ k. act.Make (pair task.hashes depth old_hash (hash_of task.hashes k) entry single)) (key_same task.call (handle_of operation.call) 0)
builds heap task access path main (at.Link position below depth) state operation = refl
builds heap task access path main (at.Rung position below depth) state operation =
    ap (λ k. act.Make (rung (hash_of task.hashes k) depth below)) (key_same task.call (handle_of operation.call) 0)
builds heap task access path main (at.Main change former) state operation =
    ap (λ k. act.Make (changed (flag_of (hash_of task.hashes k) (depth_of path)) (node_at heap main) change)) (key_same task.call (handle_of operation.call) 0)
