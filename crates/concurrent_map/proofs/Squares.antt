-- Squares of 32 bits fit into 64.
use Rattle.std.proofs.Common.{arith, ℕ, ◌*◌, ◌/◌, ◌^◌, ◌<◌, ◌≤◌}
use Rattle.std.proofs.lemmas.Nat.{div_below, mul-lt}

pub square_fits : (keys : ℕ) → keys < 2 ^ 32 → keys * keys < 2 ^ 64
square_fits keys low = mul-lt keys keys (2 ^ 32) (2 ^ 32) low low

pub part_fits : (keys places : ℕ) → keys < 2 ^ 32 → 1 ≤ places → keys * keys / (4 * places) < 2 ^ 62
part_fits keys places low some = div_below (keys * keys) (4 * places) (2 ^ 62) (omega (arith, some)) (omega (arith, square_fits keys low, some))
