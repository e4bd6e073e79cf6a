-- Lists in which one place is set, or each is turned.
use Rattle.std.proofs.lemmas.Option.{same_Some}
use Rattle.std.proofs.Common.{◌≡◌, ◌≢◌, ℕ, zero, suc, ◌<◌, List, [], ◌∷◌, map, length, Some, slice_get, slice_set, refl, ap, arith}

module _ {X : Type 0} where
  pub get_set_same : (xs : List X) (i : ℕ) (x : X) → i < length xs → slice_get (slice_set xs i x) i ≡ Some x
  get_set_same [] i x lt = absurd (omega (arith, lt))
  get_set_same (y ∷ xs) zero x lt = refl
  get_set_same (y ∷ xs) (suc i) x lt = get_set_same xs i x (omega (arith, lt))

  pub get_set_other : (xs : List X) (i j : ℕ) (x : X) → j ≢ i → slice_get (slice_set xs i x) j ≡ slice_get xs j
  get_set_other [] i j x apart = refl
  get_set_other (y ∷ xs) zero zero x apart = absurd (apart refl)
  get_set_other (y ∷ xs) zero (suc j) x apart = refl
  get_set_other (y ∷ xs) (suc i) zero x apart = refl
  get_set_other (y ∷ xs) (suc i) (suc j) x apart = get_set_other xs i j x (λ e. apart (ap suc e))

  pub within_get : (xs : List X) (i : ℕ) → i < length xs → (x : X) × (slice_get xs i ≡ Some x)
  within_get [] i lt = absurd (omega (arith, lt))
  within_get (x ∷ xs) zero lt = (x, refl)
  within_get (x ∷ xs) (suc i) lt = within_get xs i (omega (arith, lt))

  -- to set what is there
  pub set_found : (xs : List X) (i : ℕ) (x : X) → slice_get xs i ≡ Some x → slice_set xs i x ≡ xs
  set_found [] i x at = refl
  set_found (y ∷ xs) zero x at = ap (λ y. y ∷ xs) (let same : x ≡ y = cc in same)
  set_found (y ∷ xs) (suc i) x at = ap (λ ys. y ∷ ys) (set_found xs i x at)

pub map_set : {X Y : Type 0} (f : X → Y) (xs : List X) (i : ℕ) (x : X) → map f (slice_set xs i x) ≡ slice_set (map f xs) i (f x)
map_set f [] i x = refl
map_set f (y ∷ xs) zero x = refl
map_set f (y ∷ xs) (suc i) x = ap (λ ys. f y ∷ ys) (map_set f xs i x)

-- the only one is set
pub only_set : {X : Type 0} (xs ys : List X) (x y : X) → length xs ≡ 1 → slice_get xs 0 ≡ Some x → ys ≡ slice_set xs 0 y → (xs ≡ x ∷ []) × (ys ≡ y ∷ [])
only_set [] ys x y one at set = cc
only_set (z ∷ []) ys x y one at set = (ap (λ z. z ∷ []) (same_Some z x at), set)
only_set (z ∷ w ∷ xs) ys x y one at set = absurd (omega (arith, one))
