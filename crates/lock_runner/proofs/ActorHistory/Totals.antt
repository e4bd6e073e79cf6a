-- Sums over the first places.
use Rattle.std.specs.Prelude.{◌≡◌, ℕ, zero, suc, ◌+◌, ◌*◌, ◌<◌, ◌≤◌}
use Rattle.std.proofs.Common.{arith}

-- what f says of the places below n, together
abbrev pub total : ℕ → (ℕ → ℕ) → ℕ
total zero f = 0
total (suc n) f = f zero + total n (λ k. f (suc k))

pub total_least : (n : ℕ) (f g : ℕ → ℕ) → ((k : ℕ) → k < n → f k ≤ g k) → total n f ≤ total n g
total_least zero f g each = omega arith
total_least (suc n) f g each =
    omega (arith, each zero (omega arith), total_least n (λ k. f (suc k)) (λ k. g (suc k)) (λ k below. each (suc k) (omega (arith, below))))

-- at one place there is one more
pub total_more : (n k : ℕ) (f g : ℕ → ℕ) → k < n → f k + 1 ≤ g k → ((j : ℕ) → (j ≡ k → ⊥) → f j ≤ g j) → total n f + 1 ≤ total n g
total_more zero k f g below one others = absurd (omega (arith, below))
total_more (suc n) zero f g below one others =
    omega (arith, one, total_least n (λ j. f (suc j)) (λ j. g (suc j)) (λ j within. others (suc j) (λ e. absurd (omega (arith, e)))))
total_more (suc n) (suc k) f g below one others =
    let later = total_more n k (λ j. f (suc j)) (λ j. g (suc j)) (omega (arith, below)) one (λ j apart. others (suc j) (λ e. apart (omega (arith, e)))) in
    omega (arith, others zero (λ e. absurd (omega (arith, e))), later)

pub total_sum : (n : ℕ) (f g : ℕ → ℕ) → total n (λ k. f k + g k) ≡ total n f + total n g
total_sum zero f g = omega arith
total_sum (suc n) f g = omega (arith, total_sum n (λ k. f (suc k)) (λ k. g (suc k)))

-- twice as much, and one more for each place
pub total_twice : (n : ℕ) (f : ℕ → ℕ) → total n (λ k. 2 * f k + 1) ≡ 2 * total n f + n
total_twice zero f = omega arith
total_twice (suc n) f = omega (arith, total_twice n (λ k. f (suc k)))
