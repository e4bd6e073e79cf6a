use Rattle.std.proofs.Common.{◌≡◌, ◌+◌, ◌*◌, ◌++◌, drop}
use Rattle.std.specs.List.{flat_map}
use Rattle.machine_core.specs.Vocabulary.{entries_of, node_at, pairs_below}
use Rattle.machine_core.proofs.contents.+gathering.Given as goal

abbrev pub decreases-gather : goal.decreases-gather
decreases-gather l = 2 * l.levels

abbrev pub decreases-gather_each : goal.decreases-gather_each
decreases-gather_each l = 2 * l.levels + 1

abbrev pub invariant-gather_each-loop-entry : goal.invariant-gather_each-loop-entry
invariant-gather_each-loop-entry l =
    l.pairs.items ++ flat_map (pairs_below l.levels l.heap.heap) (drop l.entry-index (entries_of (node_at l.heap.heap l.fn.main)))
    ≡ l.initial.pairs.items ++ flat_map (pairs_below l.levels l.heap.heap) (entries_of (node_at l.heap.heap l.fn.main))
