-- The parts of a listing have each pair once.
use Rattle.std.proofs.Common.{cond, Bool, true, false, List, [], ◌∷◌, refl, subst, arith}
use Rattle.std.specs.List.Sorted.{IsPermutation}
use Rattle.std.proofs.lemmas.List.Sorted.{IsPermutation-refl, IsPermutation-trans, IsPermutation-cons, IsPermutation-swap}
use Rattle.ctrie_base.specs.Sorting.{put_by, sorted_by}
use Rattle.concurrent_map.specs.Laws.{ScansListOneMoment}
use Rattle.concurrent_map.proofs.Exports.{exports_are_of_the_freeze}

module _ {A : Type 0} (before : A → A → Bool) where
  put_by_test : (x y : A) (ys : List A) (b : Bool) → IsPermutation (x ∷ ys) (put_by before x ys) → IsPermutation (x ∷ y ∷ ys) (cond b (x ∷ y ∷ ys) (y ∷ put_by before x ys))
  put_by_test x y ys true rest = IsPermutation-refl (x ∷ y ∷ ys)
  put_by_test x y ys false rest =
      IsPermutation-trans (x ∷ y ∷ ys) (y ∷ x ∷ ys) (y ∷ put_by before x ys)
      (IsPermutation-swap (x ∷ y ∷ ys) (y ∷ x ∷ ys) 0 1 (omega arith) (omega arith) refl)
      (IsPermutation-cons y (x ∷ ys) (put_by before x ys) rest)

  put_moves : (x : A) (ys : List A) → IsPermutation (x ∷ ys) (put_by before x ys)
  put_moves x [] = IsPermutation-refl (x ∷ [])
  put_moves x (y ∷ ys) = put_by_test x y ys (before x y) (put_moves x ys)

  sorted_moves : (xs : List A) → IsPermutation xs (sorted_by before xs)
  sorted_moves [] = IsPermutation-refl []
  sorted_moves (x ∷ xs) =
      IsPermutation-trans (x ∷ xs) (x ∷ sorted_by before xs) (put_by before x (sorted_by before xs)) (IsPermutation-cons x xs (sorted_by before xs) (sorted_moves xs))
      (put_moves x (sorted_by before xs))

pub scans_list_one_moment : ScansListOneMoment
scans_list_one_moment hash handle copy between before frozen now after told froze kept_open rest lists =
    let (m, of, is) = exports_are_of_the_freeze hash handle copy between before frozen now after _ froze kept_open rest lists in
    (m, of, subst (IsPermutation told) is (sorted_moves _ told))
