-- All up to here have marks, if those below the first one have.
use Rattle.std.proofs.Common.{ℕ, ◌<◌}
use Rattle.order_search.specs.Marks.{HasMark}
use Rattle.order_search.proofs.walking.first_unmarked.Given as goal

abbrev pub invariant-loop-id : goal.invariant-loop-id
invariant-loop-id l = ((x : ℕ) → x < l.low → HasMark l.taken x) → (x : ℕ) → x < l.id → HasMark l.taken x
