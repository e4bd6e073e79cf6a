-- What is among a list's items, by what stands at its end and by what a test finds.
use Rattle.std.proofs.Common.{◌≡◌, List, [], ◌∷◌, ◌++◌, refl, sym, ap, ◌∙◌, Bool, true, false, ◌||◌, ◌⊎◌, inl, inr}
use Rattle.std.specs.List.{list_any}
use Rattle.std.proofs.lemmas.Bool.{or_left, or_right}
use Rattle.history.proofs.Among.{Among, among_either}

at_end : {X : Type 0} (p y : X) → Among p (y ∷ []) → y ≡ p
at_end p y (inl e) = sym e
at_end p y (inr m) = absurd m

pub among_push : {X : Type 0} (p : X) (xs : List X) (y : X) → Among p (xs ++ y ∷ []) → Among p xs ⊎ (y ≡ p)
among_push p xs y m = elim (among_either xs (y ∷ []) p m) [ inl n ↦ inl n | inr e ↦ inr (at_end p y e) ]

or_cases : (a b : Bool) → (a || b) ≡ true → (a ≡ true) ⊎ (b ≡ true)
or_cases true b e = inl refl
or_cases false b e = inr e

pub any_among : {X : Type 0} (t : X → Bool) (xs : List X) → list_any t xs ≡ true → (p : X) × Among p xs × (t p ≡ true)
any_among t [] e = absurd cc
any_among t (x ∷ xs) e =
    elim (or_cases (t x) (list_any t xs) e)
    [ inl h ↦ (x, inl refl, h) | inr h ↦ (let r = any_among t xs h in (r.0, inr r.1, r.2)) ]

pub among_any : {X : Type 0} (t : X → Bool) (p : X) (xs : List X) → Among p xs → t p ≡ true → list_any t xs ≡ true
among_any t p [] m h = absurd m
among_any t p (x ∷ xs) (inl e) h = or_left (t x) (list_any t xs) (ap t (sym e) ∙ h)
among_any t p (x ∷ xs) (inr m) h = or_right (t x) (list_any t xs) (among_any t p xs m h)
