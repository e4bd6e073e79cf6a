-- What stands among a list's elements, in a longer list and in one that is filtered.
use Rattle.std.proofs.Common.{◌≡◌, Bool, true, false, cond, ◌⊎◌, inl, inr, List, [], ◌∷◌, ◌++◌, filter, refl, sym, ap, ◌∙◌, subst}
use Rattle.std.proofs.lemmas.Bool.{false≢true}

-- x stands among the elements
abbrev pub Among : {X : Type 0} → X → List X → Type 0
Among x [] = ⊥
Among x (y ∷ ys) = (x ≡ y) ⊎ Among x ys

pub among_left : {X : Type 0} (xs ys : List X) (x : X) → Among x xs → Among x (xs ++ ys)
among_left [] ys x a = absurd a
among_left (z ∷ xs) ys x (inl e) = inl e
among_left (z ∷ xs) ys x (inr a) = inr (among_left xs ys x a)

pub among_right : {X : Type 0} (xs ys : List X) (x : X) → Among x ys → Among x (xs ++ ys)
among_right [] ys x a = a
among_right (z ∷ xs) ys x a = inr (among_right xs ys x a)

pub among_either : {X : Type 0} (xs ys : List X) (x : X) → Among x (xs ++ ys) → Among x xs ⊎ Among x ys
among_either [] ys x a = inr a
among_either (z ∷ xs) ys x (inl e) = inl (inl e)
among_either (z ∷ xs) ys x (inr a) = elim (among_either xs ys x a) [ inl l ↦ inl (inr l) | inr r ↦ inr r ]

kept_by : {X : Type 0} (b : Bool) (x y : X) (ys : List X) → Among x (cond b (y ∷ ys) ys) → ((x ≡ y) × (b ≡ true)) ⊎ Among x ys
kept_by true x y ys (inl e) = inl (e, refl)
kept_by true x y ys (inr a) = inr a
kept_by false x y ys a = inr a

pub among_filter : {X : Type 0} (p : X → Bool) (xs : List X) (x : X) → Among x (filter p xs) → Among x xs × (p x ≡ true)
among_filter p [] x a = absurd a
among_filter p (y ∷ ys) x a = elim (kept_by (p y) x y (filter p ys) a) [
  | inl here ↦ (inl here.0, ap p here.0 ∙ here.1)
  | inr later ↦ let (within, passes) = among_filter p ys x later in (inr within, passes)
]

keeps_by : {X : Type 0} (b : Bool) (x : X) (xs : List X) (y : X) → Among y xs → Among y (cond b (x ∷ xs) xs)
keeps_by true x xs y a = inr a
keeps_by false x xs y a = a

keeps_first : {X : Type 0} (b : Bool) (x : X) (xs : List X) → b ≡ true → Among x (cond b (x ∷ xs) xs)
keeps_first true x xs e = inl refl
keeps_first false x xs e = absurd (false≢true e)

pub filter_among : {X : Type 0} (p : X → Bool) (xs : List X) (x : X) → Among x xs → p x ≡ true → Among x (filter p xs)
filter_among p [] x a passes = absurd a
filter_among p (y ∷ ys) x (inl e) passes = subst (λ z. Among z (filter p (y ∷ ys))) (sym e) (keeps_first (p y) y (filter p ys) (ap p (sym e) ∙ passes))
filter_among p (y ∷ ys) x (inr a) passes = keeps_by (p y) y (filter p ys) x (filter_among p ys x a passes)
