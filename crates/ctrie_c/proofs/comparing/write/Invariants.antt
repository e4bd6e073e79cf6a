use Rattle.std.proofs.Common.{length, ◌-◌, map}
use Rattle.ctrie_c.specs.Comparing.{difference_told}
use Rattle.ctrie_c.proofs.Filled.{FilledUpTo}
use Rattle.ctrie_c.proofs.comparing.write.Given as goal

abbrev pub invariant-loop-count : goal.invariant-loop-count
invariant-loop-count l = FilledUpTo l.count (map difference_told l.fn.found) l.fn.differences l.differences

abbrev pub decreases-loop-count : goal.decreases-loop-count
decreases-loop-count l = length l.found - l.count
