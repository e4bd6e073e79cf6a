use Rattle.std.proofs.Common.{◌≡◌, ◌+◌, ◌*◌, length, drop}
use Rattle.std.specs.List.{flat_map}
use Rattle.machine_core.specs.Vocabulary.{entries_of, node_at, pairs_below}
use Rattle.machine_core.proofs.counting.+counting.Given as goal

abbrev pub decreases-count : goal.decreases-count
decreases-count l = 2 * l.levels

abbrev pub decreases-count_each : goal.decreases-count_each
decreases-count_each l = 2 * l.levels + 1

abbrev pub invariant-count_each-loop-entry : goal.invariant-count_each-loop-entry
invariant-count_each-loop-entry l =
    l.total + length (flat_map (pairs_below l.levels l.heap.heap) (drop l.entry-index (entries_of (node_at l.heap.heap l.fn.main))))
    ≡ length (flat_map (pairs_below l.levels l.heap.heap) (entries_of (node_at l.heap.heap l.fn.main)))
