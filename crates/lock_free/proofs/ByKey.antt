-- A list of pairs that a sort made is these pairs by rising key.
use Rattle.std.specs.Prelude.{◌≡◌, ℕ, Bool, true, false, List, refl}
use Rattle.std.proofs.lemmas.Bool.Decides.{nat_tests}
use Rattle.std.proofs.Common.{arith}
use Rattle.std.specs.List.Sorted.{IsSorted, IsPermutation}
use Rattle.std.specs.Ordering.{nat_cmp, ordering_then, is_lt}
use Rattle.machine_model.specs.Beneath.ctrie_base.proofs.Sorting.{std_sorted}
use Rattle.machine_model.specs.Pairs.{comes_before, by_key}

abbrev Pair : Type 0
Pair = ℕ × ℕ

-- as a sort compares them
abbrev compared : Pair → Pair → Bool
compared p q = is_lt (ordering_then (nat_cmp p.0 q.0) (nat_cmp p.1 q.1))

same_test : (p q : Pair) → compared p q ≡ comes_before p q
same_test p q = grind (arith, nat_tests)

not_itself : (p : Pair) → comes_before p p ≡ false
not_itself p = grind (arith, nat_tests)

not_both : (p q : Pair) → comes_before p q ≡ true → comes_before q p ≡ false
not_both p q h = grind (arith, nat_tests)

not_through : (p q r : Pair) → comes_before p q ≡ false → comes_before q r ≡ false → comes_before p r ≡ false
not_through p q r h k = grind (arith, nat_tests)

keys_same : (a b c d : ℕ) → comes_before (a, b) (c, d) ≡ false → comes_before (c, d) (a, b) ≡ false → (a ≡ c) × (b ≡ d)
keys_same a b c d h k = grind (arith, nat_tests)

neither : (p q : Pair) → comes_before p q ≡ false → comes_before q p ≡ false → p ≡ q
neither (a, b) (c, d) h k = let same = keys_same a b c d h k in rw (same.0, same.1) refl

pub sorted_by_key : (ps qs : List Pair) → IsPermutation ps qs → IsSorted (λ p q. ordering_then (nat_cmp p.0 q.0) (nat_cmp p.1 q.1)) qs → qs ≡ by_key ps
sorted_by_key = std_sorted comes_before compared (record { not_both = not_both; not_through = not_through; not_itself = not_itself; neither = neither }) same_test
