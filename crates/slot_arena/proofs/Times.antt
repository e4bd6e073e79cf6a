-- How often a number stands in a list.
use Rattle.std.proofs.Common.{◌≡◌, ℕ, ◌+◌, ◌<◌, ◌≤◌, ◌==◌, Bool, true, false, cond, List, [], ◌∷◌, ◌++◌, length, refl, ap, arith, eq-eqb, eqb-true}
use Rattle.std.proofs.lemmas.List.Sums.{sum_by-cons, sum_by-append, sum_by_push, count_by-le-length}
use Rattle.std.proofs.lemmas.Bool.Decides.{nat_tests}
use Rattle.slot_arena.specs.Times.{times, without}

-- a test as a count
abbrev pub bit : Bool → ℕ
bit b = cond b 1 0

-- one number as a count
abbrev pub once : ℕ → ℕ → ℕ
once n m = bit (m == n)

pub once_same : (n : ℕ) → once n n ≡ 1
once_same n = ap bit (eq-eqb n n refl)

pub once_other : (n m : ℕ) → (n ≡ m → ⊥) → once n m ≡ 0
once_other n m apart = grind (arith, nat_tests)

pub times-cons : (n m : ℕ) (ms : List ℕ) → times n (m ∷ ms) ≡ once n m + times n ms
times-cons n m ms = sum_by-cons (λ x. cond (x == n) 1 0) m ms

pub times-append : (n : ℕ) (xs ys : List ℕ) → times n (xs ++ ys) ≡ times n xs + times n ys
times-append n xs ys = sum_by-append (λ x. cond (x == n) 1 0) xs ys

pub times_push : (n m : ℕ) (ms : List ℕ) → times n (ms ++ m ∷ []) ≡ times n ms + once n m
times_push n m ms = sum_by_push (λ x. cond (x == n) 1 0) ms m

-- a number stands in a list at most as often as there are items
pub times_le : (n : ℕ) (ms : List ℕ) → times n ms ≤ length ms
times_le n ms = count_by-le-length (λ m. m == n) ms

-- taking out what stands there takes it out once, and nothing else
without_step : (n m x : ℕ) (ms : List ℕ) (b : Bool) → (x == m) ≡ b → (0 < times m ms → times n (without m ms) + once n m ≡ times n ms) → 0 < times m (x ∷ ms) →
    times n (cond b ms (x ∷ without m ms)) + once n m ≡ times n (x ∷ ms)
without_step n m x ms true same later some = let at : x ≡ m = eqb-true x m same in omega (arith, times-cons n x ms, ap (once n) at)
without_step n m x ms false other later some =
    let rest : 0 < times m ms = omega (arith, some, times-cons m x ms, ap bit other) in
    omega (arith, times-cons n x ms, times-cons n x (without m ms), later rest)

pub times-without : (n m : ℕ) (ms : List ℕ) → 0 < times m ms → times n (without m ms) + once n m ≡ times n ms
times-without n m [] some = absurd (omega arith)
times-without n m (x ∷ ms) some = without_step n m x ms (x == m) refl (times-without n m ms) some
