-- Each number is that of one pair.
use Rattle.std.proofs.Common.{◌≡◌, ℕ, zero, suc, ◌+◌, refl, ap, ◌∙◌, arith}
use Rattle.slot_arena.specs.Pairing.{triangle, pair_number, next_pair, pair_of}

-- along one diagonal
along : (sum : ℕ) → pair_of (triangle sum) ≡ (0, sum) → (a b : ℕ) → a + b ≡ sum → pair_of (triangle sum + a) ≡ (a, b)
along sum first zero b is =
    let start : triangle sum + 0 ≡ triangle sum = omega arith in
    let second : sum ≡ b = omega arith in
    ap pair_of start ∙ first ∙ ap (λ (n : ℕ). (0, n)) second
along sum first (suc a) b is =
    let next : triangle sum + suc a ≡ suc (triangle sum + a) = omega arith in
    let up : a + 1 ≡ suc a = omega arith in
    ap pair_of next ∙ ap next_pair (along sum first a (suc b) (omega arith)) ∙ ap (λ (n : ℕ). (n, b)) up

first_of : (sum : ℕ) → pair_of (triangle sum) ≡ (0, sum)
first_of zero = refl
first_of (suc sum) =
    let end : triangle (suc sum) ≡ suc (triangle sum + sum) = omega arith in
    let up : sum + 1 ≡ suc sum = omega arith in
    ap pair_of end ∙ ap next_pair (along sum (first_of sum) sum 0 (omega arith)) ∙ ap (λ (n : ℕ). (0, n)) up

pub pair_again : (a b : ℕ) → pair_of (pair_number a b) ≡ (a, b)
pair_again a b = along (a + b) (first_of (a + b)) a b refl

next_number : (p : ℕ × ℕ) → pair_number (next_pair p).0 (next_pair p).1 ≡ suc (pair_number p.0 p.1)
next_number (a, zero) =
    let there : 0 + (a + 1) ≡ suc a = omega arith in
    let here : a + 0 ≡ a = omega arith in
    omega (arith, ap triangle there, ap triangle here)
next_number (a, suc b) = let same : a + 1 + b ≡ a + suc b = omega arith in omega (arith, ap triangle same)

pub number_again : (n : ℕ) → pair_number (pair_of n).0 (pair_of n).1 ≡ n
number_again zero = refl
number_again (suc n) = next_number (pair_of n) ∙ ap suc (number_again n)
