-- What a climb makes depends on nothing of the state but heap and hashes, and on nothing of the operation but its task.
use Rattle.std.specs.Prelude.{◌≡◌, slice_set}
use Rattle.std.proofs.Common.{ap}
use Rattle.contract.specs.Vocabulary.{hash_of, position_of, Access, Writable, Ref, Heap, node_at, bitmap_of, entries_of, contracted, flag_of, Operation, Climb, handle_of, climbed_node, above}
use Rattle.contract.specs.Vocabulary.{depth_of, is_below_root, State, Task, at_heap, no_state, no_operation}
use Rattle.trie_parts.specs.Tasks.{for_task}
use Rattle.trie_parts.proofs.Handles.{key_same}

pub climbs : (heap : Heap) (task : Task) (access : Access) (state : State) (operation : Operation) (c : Climb) (main : Ref) →
    climbed_node (at_heap no_state heap task.hashes) (for_task task Writable no_operation) c main ≡ climbed_node (at_heap state heap task.hashes) (for_task task access operation) c main
climbs heap task access state operation c main =
    let node = node_at heap main in
    ap
    (λ k. contracted (is_below_root (above c.path)) (bitmap_of node) (slice_set (entries_of node) (position_of (flag_of (hash_of task.hashes k) (depth_of (above c.path))) (bitmap_of node)) c.single))
    (key_same task.call 0 (handle_of operation.call))
