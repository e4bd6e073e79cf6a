-- How far ticks are counted by a call.
use Rattle.std.specs.Prelude.{ℕ, ◌+◌, ◌≤◌}

-- from the first number the ticks grow to the second one, by so many at most
abbrev pub TakesUpTo : ℕ → ℕ → ℕ → Type 0
TakesUpTo most before after = (before ≤ after) × (after ≤ before + most)
