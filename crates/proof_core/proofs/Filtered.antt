-- What passes a test is sorted alike before and after the test.
use Rattle.std.proofs.Common.{◌≡◌, ◌+◌, ◌&&◌, Bool, true, false, cond, List, [], ◌∷◌, arith, refl, sym, ap, ◌∙◌}
use Rattle.std.specs.Prelude.{count_by}
use Rattle.std.specs.List.{AllByRecursion, filter}
use Rattle.proof_core.specs.Vocabulary.{sorted_by}
use Rattle.proof_core.specs.Beneath.ctrie_base.proofs.Sorting.{IsOrder, Rises, count_more, rest_rises, same_rising, sorted_alike, sorted_rises}

module _ {A : Type 0} (before : A → A → Bool) (order : IsOrder before) (test : A → Bool) where
  all_through : (x y : A) (zs : List A) → before y x ≡ false → AllByRecursion (λ z. before z y ≡ false) zs → AllByRecursion (λ z. before z x ≡ false) zs
  all_through x y [] h all = tt
  all_through x y (z ∷ zs) h all = (order.not_through z y x all.0 h, all_through x y zs h all.1)

  -- none of a rising list is before its first
  none_before : (x : A) (ys : List A) → Rises before (x ∷ ys) → AllByRecursion (λ z. before z x ≡ false) ys
  none_before x [] up = tt
  none_before x (y ∷ ys) up = (up.0, all_through x y ys up.0 (none_before y ys up.1))

  each_filtered : (P : A → Type 0) (ys : List A) → AllByRecursion P ys → AllByRecursion P (filter test ys)
  each_filtered P [] all = tt
  each_filtered P (y ∷ ys) all = by_test (test y) (each_filtered P ys all.1)
    where
      by_test : (b : Bool) → AllByRecursion P (filter test ys) → AllByRecursion P (cond b (y ∷ filter test ys) (filter test ys))
      by_test true rest = (all.0, rest)
      by_test false rest = rest

  rises_from : (x : A) (ys : List A) → AllByRecursion (λ z. before z x ≡ false) ys → Rises before ys → Rises before (x ∷ ys)
  rises_from x [] all up = tt
  rises_from x (y ∷ ys) all up = (all.0, up)

  filter_rises : (ys : List A) → Rises before ys → Rises before (filter test ys)
  filter_rises [] up = tt
  filter_rises (y ∷ ys) up =
      by_test (test y) (filter_rises ys (rest_rises before order y ys up)) (each_filtered (λ z. before z y ≡ false) ys (none_before y ys up))
    where
      by_test : (b : Bool) → Rises before (filter test ys) → AllByRecursion (λ z. before z y ≡ false) (filter test ys) →
          Rises before (cond b (y ∷ filter test ys) (filter test ys))
      by_test true rest all = rises_from y (filter test ys) all rest
      by_test false rest all = rest

  count_filtered : (t : A → Bool) (xs : List A) → count_by t (filter test xs) ≡ count_by (λ x. test x && t x) xs
  count_filtered t [] = refl
  count_filtered t (x ∷ xs) = by_test (test x) (count_filtered t xs) ∙ sym (count_more (λ y. test y && t y) x xs)
    where
      by_test : (b : Bool) → count_by t (filter test xs) ≡ count_by (λ y. test y && t y) xs →
          count_by t (cond b (x ∷ filter test xs) (filter test xs)) ≡ cond (b && t x) 1 0 + count_by (λ y. test y && t y) xs
      by_test true rest = count_more t x (filter test xs) ∙ ap (λ n. cond (t x) 1 0 + n) rest
      by_test false rest = omega (arith, rest)

  pub filter_sorted : (xs : List A) → sorted_by before (filter test xs) ≡ filter test (sorted_by before xs)
  filter_sorted xs =
      same_rising before order (sorted_by before (filter test xs)) (filter test (sorted_by before xs)) (sorted_rises before order (filter test xs))
      (filter_rises (sorted_by before xs) (sorted_rises before order xs))
      (λ t. sorted_alike before order (filter test xs) t ∙ count_filtered t xs ∙ sym (sorted_alike before order xs (λ x. test x && t x))
      ∙ sym (count_filtered t (sorted_by before xs)))
