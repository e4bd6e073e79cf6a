use Rattle.std.proofs.Common.{◌≡◌, ◌+◌, ◌*◌, drop, None}
use Rattle.std.specs.List.{flat_map}
use Rattle.machine_core.specs.Vocabulary.{walked}
use Rattle.machine_core.specs.Scanning.{with_next}
use Rattle.machine_core.proofs.scanning.+scanning.Given as goal

abbrev pub decreases-scan : goal.decreases-scan
decreases-scan l = 4 * l.levels

abbrev pub decreases-scan_main : goal.decreases-scan_main
decreases-scan_main l = 4 * l.levels + 3

abbrev pub decreases-scan_branch : goal.decreases-scan_branch
decreases-scan_branch l = 4 * l.levels + 2

abbrev pub decreases-scan_each : goal.decreases-scan_each
decreases-scan_each l = 4 * l.levels + 1

-- it is known what will have been taken
abbrev pub invariant-scan_each-loop-entry : goal.invariant-scan_each-loop-entry
invariant-scan_each-loop-entry l =
    with_next l.parts.limits.hash None l.room l.pairs.items (flat_map (walked l.levels l.parts.heap.heap) (drop l.entry-index l.entries))
    ≡ with_next l.parts.limits.hash None l.room l.initial.pairs.items (flat_map (walked l.levels l.parts.heap.heap) l.entries)
