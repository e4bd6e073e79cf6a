-- The least pairs of many, so many at most.
use Rattle.std.proofs.Common.{◌≡◌, ℕ, ◌<◌, Bool, true, false, not, Some, List, [], ◌∷◌, length, take, arith, refl, sym, ap, ◌∙◌}
use Rattle.std.specs.List.{AllByRecursion}
use Rattle.std.specs.List.Sorted.{IsPermutation}
use Rattle.std.specs.Ordering.{is_ge, is_lt, is_some_and, nat_cmp, ordering_then, partial_ge, partial_ordering_then}
use Rattle.std.specs.declared.cmp.Ordering.{Ordering}
use Rattle.std.specs.declared.cmp.Ordering.TheVariants.{Less, Equal, Greater}
use Rattle.std.proofs.lemmas.Bool.{not-true, not-false}
use Rattle.std.proofs.lemmas.List.{take_all}
use Rattle.std.proofs.lemmas.List.Sorted.{length_permutation}
use Rattle.machine_core.specs.Vocabulary.{by_key, comes_before}
use Rattle.ctrie_base.proofs.Sorting.{Alike, permuted_alike, count_more, sorted_same}
use Rattle.machine_core.proofs.Sorting.{Pair, compared, pairs_order, same_test}
use Rattle.proof_core.proofs.Firsts.{greatest_left, length_sorted}

pub by_alike : (xs ys : List Pair) → Alike xs ys → by_key xs ≡ by_key ys
by_alike = sorted_same comes_before pairs_order

ge_by : (a b : Ordering) → is_some_and is_ge (partial_ordering_then (Some a) (Some b)) ≡ not (is_lt (ordering_then a b))
ge_by Less b = refl
ge_by Greater b = refl
ge_by Equal Less = refl
ge_by Equal Equal = refl
ge_by Equal Greater = refl

abbrev at_least : Pair → Pair → Bool
at_least = partial_ge (λ p q. partial_ordering_then (Some (nat_cmp p.0 q.0)) (Some (nat_cmp p.1 q.1)))

pub not_less : (p q : Pair) → at_least p q ≡ true → compared p q ≡ false
not_less p q ge = not-true (compared p q) (sym (ge_by (nat_cmp p.0 q.0) (nat_cmp p.1 q.1)) ∙ ge)

pub less : (p q : Pair) → at_least p q ≡ false → compared p q ≡ true
less p q lt = not-false (compared p q) (sym (ge_by (nat_cmp p.0 q.0) (nat_cmp p.1 q.1)) ∙ lt)

-- where there is room
pub added : (n : ℕ) (pair : Pair) (old new : List Pair) → IsPermutation (pair ∷ old) new → length old < n → by_key new ≡ take n (by_key (pair ∷ old))
added n pair old new moved short =
    let same = length_sorted comes_before (pair ∷ old) in
    by_alike new (pair ∷ old) (permuted_alike (pair ∷ old) new moved) ∙ sym (take_all n (by_key (pair ∷ old)) (omega (arith, same, short)))

-- one that is less than the greatest one
pub exchanged : (n : ℕ) (pair greatest : Pair) (old rest new : List Pair) → IsPermutation old (greatest ∷ rest) → AllByRecursion (λ y. compared greatest y ≡ false) rest →
    compared pair greatest ≡ true → IsPermutation (pair ∷ rest) new → length old ≡ n → by_key new ≡ take n (by_key (pair ∷ old))
exchanged n pair greatest old rest new popped bound less pushed long =
    by_alike new (pair ∷ rest) (permuted_alike (pair ∷ rest) new pushed)
    ∙ sym (greatest_left comes_before n greatest (pair ∷ rest) (let same = length_permutation old (greatest ∷ rest) popped in omega (arith, long, same))
    (pairs_order.not_both pair greatest (sym (same_test pair greatest) ∙ less), all_same rest bound))
    ∙ ap (take n) (by_alike (greatest ∷ pair ∷ rest) (pair ∷ old) alike)
  where
    all_same : (ys : List Pair) → AllByRecursion (λ y. compared greatest y ≡ false) ys → AllByRecursion (λ y. comes_before greatest y ≡ false) ys
    all_same [] all = tt
    all_same (y ∷ ys) all = (sym (same_test greatest y) ∙ all.0, all_same ys all.1)

    alike : Alike (greatest ∷ pair ∷ rest) (pair ∷ old)
    alike t =
        omega (arith, count_more t greatest (pair ∷ rest), count_more t pair rest, count_more t pair old, count_more t greatest rest, permuted_alike old (greatest ∷ rest) popped t)

-- one that isn't
pub left_out : (n : ℕ) (pair greatest : Pair) (old : List Pair) → AllByRecursion (λ y. compared greatest y ≡ false) old → compared pair greatest ≡ false → length old ≡ n →
    by_key old ≡ take n (by_key (pair ∷ old))
left_out n pair greatest old bound less long = sym (greatest_left comes_before n pair old (sym long) (all_above old bound))
  where
    all_above : (ys : List Pair) → AllByRecursion (λ y. compared greatest y ≡ false) ys → AllByRecursion (λ y. comes_before pair y ≡ false) ys
    all_above [] all = tt
    all_above (y ∷ ys) all =
        (pairs_order.not_through pair greatest y (sym (same_test pair greatest) ∙ less) (sym (same_test greatest y) ∙ all.0), all_above ys all.1)
