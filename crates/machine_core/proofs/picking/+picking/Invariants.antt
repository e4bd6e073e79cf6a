use Rattle.std.proofs.Common.{◌≡◌, ◌+◌, ◌*◌, drop}
use Rattle.std.specs.List.{flat_map}
use Rattle.machine_core.specs.Vocabulary.{entries_of, node_at, pairs_below}
use Rattle.proof_core.specs.Reading.{first_of}
use Rattle.machine_core.proofs.picking.+picking.Given as goal

abbrev pub decreases-pick : goal.decreases-pick
decreases-pick l = 2 * l.levels

abbrev pub decreases-pick_among : goal.decreases-pick_among
decreases-pick_among l = 2 * l.levels + 1

abbrev pub invariant-pick_among-loop-entry : goal.invariant-pick_among-loop-entry
invariant-pick_among-loop-entry l =
    first_of (flat_map (pairs_below l.levels l.heap.heap) (entries_of (node_at l.heap.heap l.fn.main)))
    ≡ first_of (flat_map (pairs_below l.levels l.heap.heap) (drop l.entry-index (entries_of (node_at l.heap.heap l.fn.main))))
