-- The first so many of what is sorted.
use Rattle.std.proofs.Common.{◌≡◌, ℕ, zero, suc, Bool, true, false, cond, List, [], ◌∷◌, ◌++◌, length, take, arith, refl, sym, ap, ◌∙◌}
use Rattle.std.specs.List.{AllByRecursion}
use Rattle.std.proofs.lemmas.List.{take_all, take-append-le, take-take}
use Rattle.proof_core.specs.Vocabulary.{put_by, sorted_by}

-- ---- what is put behind the first so many doesn't change them

take_behind : {A : Type 0} (n : ℕ) (y : A) (ys : List A) → take n (y ∷ take n ys) ≡ take n (y ∷ ys)
take_behind zero y ys = refl
take_behind (suc n) y ys = ap (λ zs. y ∷ zs) (take-take n (suc n) ys (omega arith))

module _ {A : Type 0} (before : A → A → Bool) where
  put_by_test : (n : ℕ) (x y : A) (ys : List A) (b : Bool) → take n (put_by before x (take n ys)) ≡ take n (put_by before x ys) →
      take (suc n) (cond b (x ∷ y ∷ take n ys) (y ∷ put_by before x (take n ys))) ≡ take (suc n) (cond b (x ∷ y ∷ ys) (y ∷ put_by before x ys))
  put_by_test n x y ys true rest = ap (λ zs. x ∷ zs) (take_behind n y ys)
  put_by_test n x y ys false rest = ap (λ zs. y ∷ zs) rest

  take_put : (n : ℕ) (x : A) (ys : List A) → take n (put_by before x (take n ys)) ≡ take n (put_by before x ys)
  take_put zero x ys = refl
  take_put (suc n) x [] = refl
  take_put (suc n) x (y ∷ ys) = put_by_test n x y ys (before x y) (take_put n x ys)

  -- the first so many of all are among the first so many of each part
  pub take_sorted : (n : ℕ) (xs ys zs : List A) → take n (sorted_by before ys) ≡ take n (sorted_by before zs) →
      take n (sorted_by before (xs ++ ys)) ≡ take n (sorted_by before (xs ++ zs))
  take_sorted n [] ys zs same = same
  take_sorted n (x ∷ xs) ys zs same =
      sym (take_put n x (sorted_by before (xs ++ ys))) ∙ ap (λ s. take n (put_by before x s)) (take_sorted n xs ys zs same) ∙ take_put n x (sorted_by before (xs ++ zs))

  length_put_by : (x y : A) (ys : List A) (b : Bool) → length (put_by before x ys) ≡ suc (length ys) → length (cond b (x ∷ y ∷ ys) (y ∷ put_by before x ys)) ≡ suc (suc (length ys))
  length_put_by x y ys true rest = refl
  length_put_by x y ys false rest = ap suc rest

  length_put : (x : A) (ys : List A) → length (put_by before x ys) ≡ suc (length ys)
  length_put x [] = refl
  length_put x (y ∷ ys) = length_put_by x y ys (before x y) (length_put x ys)

  pub length_sorted : (xs : List A) → length (sorted_by before xs) ≡ length xs
  length_sorted [] = refl
  length_sorted (x ∷ xs) = length_put x (sorted_by before xs) ∙ ap suc (length_sorted xs)

  -- ---- the greatest one comes last

  put_each_by : (P : A → Type 0) (x y : A) (ys : List A) → P x → AllByRecursion P (y ∷ ys) → AllByRecursion P (put_by before x ys) → (b : Bool) →
      AllByRecursion P (cond b (x ∷ y ∷ ys) (y ∷ put_by before x ys))
  put_each_by P x y ys here all rest true = (here, all)
  put_each_by P x y ys here all rest false = (all.0, rest)

  put_each : (P : A → Type 0) (x : A) (ys : List A) → P x → AllByRecursion P ys → AllByRecursion P (put_by before x ys)
  put_each P x [] here all = (here, tt)
  put_each P x (y ∷ ys) here all = put_each_by P x y ys here all (put_each P x ys here all.1) (before x y)

  sorted_each : (P : A → Type 0) (xs : List A) → AllByRecursion P xs → AllByRecursion P (sorted_by before xs)
  sorted_each P [] all = tt
  sorted_each P (x ∷ xs) all = put_each P x (sorted_by before xs) all.0 (sorted_each P xs all.1)

  put_last : (x : A) (ys : List A) → AllByRecursion (λ y. before x y ≡ false) ys → put_by before x ys ≡ ys ++ x ∷ []
  put_last x [] all = refl
  put_last x (y ∷ ys) all = ap (λ b. cond b (x ∷ y ∷ ys) (y ∷ put_by before x ys)) all.0 ∙ ap (λ zs. y ∷ zs) (put_last x ys all.1)

  -- what is before none of so many isn't among the first so many
  pub greatest_left : (n : ℕ) (x : A) (xs : List A) → n ≡ length xs → AllByRecursion (λ y. before x y ≡ false) xs → take n (sorted_by before (x ∷ xs)) ≡ sorted_by before xs
  greatest_left n x xs long all =
      let same = length_sorted xs in
      ap (take n) (put_last x (sorted_by before xs) (sorted_each (λ y. before x y ≡ false) xs all))
      ∙ take-append-le n (sorted_by before xs) (x ∷ []) (omega (arith, long, same))
      ∙ take_all n (sorted_by before xs) (omega (arith, long, same))
