-- What is sorted has the same items.
use Rattle.std.proofs.Common.{◌≡◌, ℕ, zero, suc, ◌<◌, Bool, true, false, cond, List, Contains, [], ◌∷◌, length, get_or, arith, refl, subst}
use Rattle.std.proofs.lemmas.List.Elements.{All-contains, All-contains_itself}
use Rattle.proof_core.specs.Vocabulary.{put_by, sorted_by}
use Rattle.proof_core.specs.Beneath.ctrie_base.proofs.Sorting.{sorted_all}

module _ {A : Type 0} (before : A → A → Bool) where
  pub put_has : (x : A) (ys : List A) → Contains (put_by before x ys) x
  put_has x [] = (0, omega arith, refl)
  put_has x (y ∷ ys) = by_test (before x y) (put_has x ys)
    where
      by_test : (b : Bool) → Contains (put_by before x ys) x → Contains (cond b (x ∷ y ∷ ys) (y ∷ put_by before x ys)) x
      by_test true rest = (0, omega arith, refl)
      by_test false (k, h, e) = (suc k, omega (arith, h), e)

  put_keeps : (x : A) (ys : List A) (i : ℕ) (z : A) → i < length ys → get_or ys i z ≡ z → Contains (put_by before x ys) z
  put_keeps x [] i z h e = absurd (omega (arith, h))
  put_keeps x (y ∷ ys) zero z h e = by_test (before x y)
    where
      by_test : (b : Bool) → Contains (cond b (x ∷ y ∷ ys) (y ∷ put_by before x ys)) z
      by_test true = (1, omega arith, e)
      by_test false = (0, omega arith, e)
  put_keeps x (y ∷ ys) (suc i) z h e = by_test (before x y) (put_keeps x ys i z (omega (arith, h)) e)
    where
      by_test : (b : Bool) → Contains (put_by before x ys) z → Contains (cond b (x ∷ y ∷ ys) (y ∷ put_by before x ys)) z
      by_test true rest = (suc (suc i), omega (arith, h), e)
      by_test false (k, within, is) = (suc k, omega (arith, within), is)

  sorted_has : (xs : List A) (i : ℕ) (z : A) → i < length xs → get_or xs i z ≡ z → Contains (sorted_by before xs) z
  sorted_has [] i z h e = absurd (omega (arith, h))
  sorted_has (x ∷ xs) zero z h e = subst (Contains (put_by before x (sorted_by before xs))) e (put_has x (sorted_by before xs))
  sorted_has (x ∷ xs) (suc i) z h e =
      let there = sorted_has xs i z (omega (arith, h)) e in
      put_keeps x (sorted_by before xs) there.0 z there.1 there.2

  pub into_sorted : (xs : List A) (z : A) → Contains xs z → Contains (sorted_by before xs) z
  into_sorted xs z there = sorted_has xs there.0 z there.1 there.2

  pub from_sorted : (xs : List A) (z : A) → Contains (sorted_by before xs) z → Contains xs z
  from_sorted xs z there = All-contains (Contains xs) (sorted_by before xs) z (sorted_all (Contains xs) before xs (All-contains_itself xs)) there
