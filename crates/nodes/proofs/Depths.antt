-- Depths below all levels of a hash.
use Rattle.std.specs.Prelude.{◌≡◌, ℕ, ◌*◌, ◌/◌, ◌%◌, ◌^◌, ◌<◌, ◌≤◌}
use Rattle.std.proofs.Common.{arith, sym, ap}
use Rattle.std.proofs.Math.Nat.{div-eq_of_lt}
use Rattle.std.proofs.Math.Pow.{pow_mono}
use Rattle.nodes.specs.Levels.{index_in}

-- a hash of 64 bits has no more of them below depth 12
pub spent : (hash depth : ℕ) → hash < 2 ^ 64 → 12 < depth → 0 ≡ index_in hash depth
spent hash depth fits deep =
    let above : 2 ^ 64 ≤ 2 ^ (5 * depth) = pow_mono {i = 64} {j = 5 * depth} (omega arith) in
    let small : hash / 2 ^ (5 * depth) ≡ 0 = div-eq_of_lt (omega (arith, fits, above)) in
    sym (ap (λ n. n % 32) small)
