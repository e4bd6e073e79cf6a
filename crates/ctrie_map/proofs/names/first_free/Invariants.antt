use Rattle.std.proofs.Common.{◌≤◌, ◌<◌, ℕ, IsSome, None, slice_index_or}
use Rattle.ctrie_map.proofs.names.first_free.Given as goal

-- the numbers so far have names
abbrev pub invariant-loop-number : goal.invariant-loop-number
invariant-loop-number l = (number : ℕ) → l.fn.from ≤ number → number < l.number → IsSome (slice_index_or l.named number None)
