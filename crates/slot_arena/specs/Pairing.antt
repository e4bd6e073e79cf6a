-- Cantor's numbers of pairs: each pair of numbers has one, counted along the diagonals on which the sum of both is the same.
use Rattle.std.specs.Prelude.{ℕ, zero, suc, ◌+◌}

-- how many pairs have a sum below this one
abbrev pub triangle : ℕ → ℕ
triangle zero = 0
triangle (suc sum) = triangle sum + (sum + 1)

-- the number of a pair
abbrev pub pair_number : ℕ → ℕ → ℕ
pair_number a b = triangle (a + b) + a

-- the pair that has the next number
abbrev pub next_pair : ℕ × ℕ → ℕ × ℕ
next_pair (a, zero) = (0, a + 1)
next_pair (a, suc b) = (a + 1, b)

-- the pair that has this number
abbrev pub pair_of : ℕ → ℕ × ℕ
pair_of zero = (0, 0)
pair_of (suc n) = next_pair (pair_of n)
