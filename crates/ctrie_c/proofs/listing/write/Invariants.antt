use Rattle.std.proofs.Common.{length, ◌-◌, ◌≡◌, take, map}
use Rattle.ctrie_c.specs.Listing.{behind, pair_of}
use Rattle.ctrie_c.proofs.Filled.{FilledUpTo}
use Rattle.ctrie_c.proofs.listing.write.Given as goal

-- so many pairs are written, and the cursor is behind them
abbrev pub invariant-loop-count : goal.invariant-loop-count
invariant-loop-count l = FilledUpTo l.count (map pair_of l.fn.part) l.fn.pairs l.pairs × (l.cursor ≡ behind l.fn.cursor (take l.count l.fn.part))

abbrev pub decreases-loop-count : goal.decreases-loop-count
decreases-loop-count l = length l.part - l.count
