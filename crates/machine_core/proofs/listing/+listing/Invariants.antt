use Rattle.std.proofs.Common.{◌≡◌, ◌+◌, ◌*◌, drop}
use Rattle.std.specs.List.{flat_map}
use Rattle.machine_core.specs.Vocabulary.{entries_of, node_at, pairs_below}
use Rattle.machine_core.specs.Selecting.{selected_with}
use Rattle.machine_core.proofs.listing.+listing.Given as goal

abbrev pub decreases-select : goal.decreases-select
decreases-select l = 2 * l.levels

abbrev pub decreases-select_each : goal.decreases-select_each
decreases-select_each l = 2 * l.levels + 1

-- it is known what will have been taken
abbrev pub invariant-select_each-loop-entry : goal.invariant-select_each-loop-entry
invariant-select_each-loop-entry l = record {
  after : l.selection.after ≡ l.initial.selection.after;
  room : l.selection.room ≡ l.initial.selection.room;
  least : selected_with l.selection (flat_map (pairs_below l.levels l.heap.heap) (drop l.entry-index (entries_of (node_at l.heap.heap l.fn.main))))
      ≡ selected_with l.initial.selection (flat_map (pairs_below l.levels l.heap.heap) (entries_of (node_at l.heap.heap l.fn.main)));
}
