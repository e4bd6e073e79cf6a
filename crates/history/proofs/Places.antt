-- What stands at a place of a list that was made longer, written to or cut.
use Rattle.std.proofs.Common.{◌≡◌, ◌≢◌, ℕ, zero, suc, ◌<◌, ◌⊎◌, inl, inr, List, [], ◌∷◌, ◌++◌, length, take, set, Option, Some}
use Rattle.std.proofs.Common.{None, slice_get, get_or, is_some, true, false, replicate, refl, ap, arith}
use Rattle.std.proofs.lemmas.Bool.{false≢true, true≢false}

-- a longer list keeps its elements
pub at_old : {X : Type 0} (xs : List X) (x : X) (i : ℕ) (y : X) → slice_get xs i ≡ Some y → slice_get (xs ++ x ∷ []) i ≡ Some y
at_old [] x i y e = cc
at_old (a ∷ xs) x zero y e = e
at_old (a ∷ xs) x (suc i) y e = at_old xs x i y e

-- and the new one stands behind them
pub at_push : {X : Type 0} (xs : List X) (x : X) (i : ℕ) → i ≡ length xs → slice_get (xs ++ x ∷ []) i ≡ Some x
at_push [] x zero e = refl
at_push [] x (suc i) e = absurd (omega (arith, e))
at_push (a ∷ xs) x zero e = absurd (omega (arith, e))
at_push (a ∷ xs) x (suc i) e = at_push xs x i (omega (arith, e))

-- the same where more than one stand behind them
pub at_front : {X : Type 0} (xs ys : List X) (i : ℕ) (y : X) → slice_get xs i ≡ Some y → slice_get (xs ++ ys) i ≡ Some y
at_front [] ys i y e = cc
at_front (a ∷ xs) ys zero y e = e
at_front (a ∷ xs) ys (suc i) y e = at_front xs ys i y e

pub at_seam : {X : Type 0} (xs ys : List X) (y : X) → slice_get (xs ++ y ∷ ys) (length xs) ≡ Some y
at_seam [] ys y = refl
at_seam (a ∷ xs) ys y = at_seam xs ys y

-- an element of the longer list is an old one, or the new one at its end
pub at_cases : {X : Type 0} (xs : List X) (x : X) (i : ℕ) (y : X) → slice_get (xs ++ x ∷ []) i ≡ Some y → (slice_get xs i ≡ Some y) ⊎ ((i ≡ length xs) × (x ≡ y))
at_cases [] x zero y e = inr (refl, cc)
at_cases [] x (suc i) y e = cc
at_cases (a ∷ xs) x zero y e = inl e
at_cases (a ∷ xs) x (suc i) y e = elim (at_cases xs x i y e) [ inl old ↦ inl old | inr new ↦ inr (ap suc new.0, new.1) ]

-- what is written is there
pub at_set : {X : Type 0} (xs : List X) (i : ℕ) (x : X) → i < length xs → slice_get (set xs i x) i ≡ Some x
at_set [] i x lt = absurd (omega (arith, lt))
at_set (a ∷ xs) zero x lt = refl
at_set (a ∷ xs) (suc i) x lt = at_set xs i x (omega (arith, lt))

-- a write changes no other place
pub at_set_other : {X : Type 0} (xs : List X) (i j : ℕ) (x : X) → j ≢ i → slice_get (set xs i x) j ≡ slice_get xs j
at_set_other [] i j x ne = refl
at_set_other (a ∷ xs) zero zero x ne = absurd (ne refl)
at_set_other (a ∷ xs) zero (suc j) x ne = refl
at_set_other (a ∷ xs) (suc i) zero x ne = refl
at_set_other (a ∷ xs) (suc i) (suc j) x ne = at_set_other xs i j x (λ e. ne (ap suc e))

-- an element after a write is the written one, or an old one elsewhere
pub at_set_cases : {X : Type 0} (xs : List X) (i j : ℕ) (x y : X) → slice_get (set xs i x) j ≡ Some y → ((j ≡ i) × (x ≡ y)) ⊎ ((j ≢ i) × (slice_get xs j ≡ Some y))
at_set_cases [] i j x y e = cc
at_set_cases (a ∷ xs) zero zero x y e = inl (refl, cc)
at_set_cases (a ∷ xs) zero (suc j) x y e = inr (λ h. omega (arith, h), e)
at_set_cases (a ∷ xs) (suc i) zero x y e = inr (λ h. omega (arith, h), e)
at_set_cases (a ∷ xs) (suc i) (suc j) x y e =
    elim (at_set_cases xs i j x y e) [ inl new ↦ inl (ap suc new.0, new.1) | inr old ↦ inr (λ h. old.0 (omega (arith, h)), old.1) ]

-- an element of a front is one of the list, below the cut
pub at_take : {X : Type 0} (xs : List X) (n i : ℕ) (y : X) → slice_get (take n xs) i ≡ Some y → (i < n) × (slice_get xs i ≡ Some y)
at_take xs zero i y e = cc
at_take [] (suc n) i y e = cc
at_take (a ∷ xs) (suc n) zero y e = (omega arith, e)
at_take (a ∷ xs) (suc n) (suc i) y e = let h = at_take xs n i y e in (omega (arith, h.0), h.1)

-- a front has the elements below the cut
pub in_take : {X : Type 0} (xs : List X) (n i : ℕ) (y : X) → i < n → slice_get xs i ≡ Some y → slice_get (take n xs) i ≡ Some y
in_take xs zero i y lt e = absurd (omega (arith, lt))
in_take [] (suc n) i y lt e = e
in_take (a ∷ xs) (suc n) zero y lt e = e
in_take (a ∷ xs) (suc n) (suc i) y lt e = in_take xs n i y (omega (arith, lt)) e

-- there is an element at each place below the length
pub at_within : {X : Type 0} (xs : List X) (i : ℕ) → i < length xs → (x : X) × (slice_get xs i ≡ Some x)
at_within [] i lt = absurd (omega (arith, lt))
at_within (a ∷ xs) zero lt = (a, refl)
at_within (a ∷ xs) (suc i) lt = at_within xs i (omega (arith, lt))

-- an option is none or some value
pub option_cases : {X : Type 0} (o : Option X) → (o ≡ None) ⊎ ((x : X) × (o ≡ Some x))
option_cases None = inl refl
option_cases (Some x) = inr (x, refl)

-- a list of nothing has no value
pub at_nothing : (n i x : ℕ) (nothing : Option ℕ) → nothing ≡ None → ¬ (slice_get (replicate n nothing) i ≡ Some (Some x))
at_nothing zero i x nothing is at = cc
at_nothing (suc n) zero x nothing is at = cc
at_nothing (suc n) (suc i) x nothing is at = at_nothing n i x nothing is at

-- a value that a test finds
pub at_tested : {X : Type 0} (xs : List (Option X)) (i : ℕ) → is_some (get_or xs i None) ≡ true → (x : X) × (slice_get xs i ≡ Some (Some x))
at_tested [] i is = absurd (false≢true is)
at_tested (None ∷ xs) zero is = absurd (false≢true is)
at_tested (Some x ∷ xs) zero is = (x, refl)
at_tested (a ∷ xs) (suc i) is = at_tested xs i is

-- a test that finds no value
pub at_untested : {X : Type 0} (xs : List (Option X)) (i : ℕ) → i < length xs → is_some (get_or xs i None) ≡ false → slice_get xs i ≡ Some None
at_untested [] i lt is = absurd (omega (arith, lt))
at_untested (None ∷ xs) zero lt is = refl
at_untested (Some x ∷ xs) zero lt is = absurd (true≢false is)
at_untested (a ∷ xs) (suc i) lt is = at_untested xs i (omega (arith, lt)) is

-- an option of which no value can be is none
pub option_unfound : {X : Type 0} (o : Option X) → ((x : X) → o ≡ Some x → ⊥) → o ≡ None
option_unfound None never = refl
option_unfound (Some x) never = absurd (never x refl)

-- an option that a test finds to have a value
pub option_tested : {X : Type 0} (o : Option X) → is_some o ≡ true → (x : X) × (o ≡ Some x)
option_tested None is = absurd (false≢true is)
option_tested (Some x) is = (x, refl)

-- an option that a test finds to have none
pub option_untested : {X : Type 0} (o : Option X) → is_some o ≡ false → o ≡ None
option_untested None is = refl
option_untested (Some x) is = absurd (true≢false is)
