-- Sums over the actors, which are counted from 1.
use Rattle.std.proofs.Common.{◌≡◌, ℕ, zero, suc, ◌+◌, ◌*◌, ◌≤◌, sym, subst, arith}
use native.Mathlib.Decide.{ℕ_discrete}

unfoldable pub sum_to : (ℕ → ℕ) → ℕ → ℕ
sum_to f zero = 0
sum_to f (suc n) = sum_to f n + f (suc n)

-- what is less for each is less in all
pub sums_less : (f g : ℕ → ℕ) (n : ℕ) → ((j : ℕ) → j ≤ n → g j ≤ f j) → sum_to g n ≤ sum_to f n
unfolding sum_to
sums_less f g zero less = omega arith
sums_less f g (suc n) less =
    let rest = sums_less f g n (λ j below. less j (omega (arith, below))) in
    let last = less (suc n) (omega arith) in
    omega (arith, rest, last)

-- what one pays is paid in all
pub sums_pay : (f g : ℕ → ℕ) (k off on n : ℕ) → ((j : ℕ) → (j ≡ k → ⊥) → g j ≤ f j) → g k + off ≤ f k + on → 1 ≤ k → k ≤ n → sum_to g n + off ≤ sum_to f n + on
unfolding sum_to
sums_pay f g k off on zero others pays from below = absurd (omega (arith, from, below))
sums_pay f g k off on (suc n) others pays from below = elim (ℕ_discrete k (suc n)) [
  | yes same ↦
      let rest = sums_less f g n (λ j within. others j (λ e. omega (arith, e, same, within))) in
      let here : g (suc n) + off ≤ f (suc n) + on = subst (λ x. g x + off ≤ f x + on) same pays in
      omega (arith, rest, here)
  | no apart ↦
      let rest = sums_pay f g k off on n others pays from (omega (arith, below, apart)) in
      let last = others (suc n) (λ e. apart (sym e)) in
      omega (arith, rest, last)
]

-- each is in it
pub sum_has : (f : ℕ → ℕ) (k n : ℕ) → 1 ≤ k → k ≤ n → f k ≤ sum_to f n
unfolding sum_to
sum_has f k zero from below = absurd (omega (arith, from, below))
sum_has f k (suc n) from below = elim (ℕ_discrete k (suc n)) [
  | yes same ↦ subst (λ x. f x ≤ sum_to f n + f (suc n)) (sym same) (omega arith)
  | no apart ↦ let rest = sum_has f k n from (omega (arith, below, apart)) in omega (arith, rest)
]

-- at most five each
pub sum_most : (f : ℕ → ℕ) (n : ℕ) → ((j : ℕ) → f j ≤ 5) → sum_to f n ≤ 5 * n
unfolding sum_to
sum_most f zero most = omega arith
sum_most f (suc n) most =
    let rest = sum_most f n most in
    let last = most (suc n) in
    omega (arith, rest, last)
