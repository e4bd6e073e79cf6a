use Rattle.std.proofs.Common.{length, ◌-◌, ◌≡◌, drop}
use Rattle.std.specs.FinMap as finite
use Rattle.shared_map.specs.Beneath.ctrie_map.specs.Maps.{handles_of}
use Rattle.ctrie_c.proofs.Filled.{FilledUpTo}
use Rattle.ctrie_c.proofs.handles.write.Given as goal

abbrev pub invariant-loop-count : goal.invariant-loop-count
invariant-loop-count l =
    FilledUpTo l.count (finite.keys (handles_of l.fn.map)) l.fn.handles l.handles × (l.open_handles ≡ drop l.count (finite.keys (handles_of l.fn.map)))

abbrev pub decreases-loop-count : goal.decreases-loop-count
decreases-loop-count l = length l.handles - l.count
