-- What the tests of lists of references say.
use Rattle.std.proofs.Common.{◌≡◌, inl, inr, ◌==◌, Bool, true, false, ◌||◌, ◌&&◌, List, [], ◌∷◌, Contains, flat_map, get_or, refl, sym, ap, subst, ◌∙◌, eqb-true, eq-eqb, arith}
use Rattle.std.proofs.lemmas.Bool.{true≢false}
use Rattle.std.proofs.lemmas.List.Concat.{flat_map-cons}
use Rattle.std.proofs.lemmas.List.Elements.{Contains-append_cases, Contains-append_left, Contains-append_right, Contains-push}
use Rattle.proof_claims.specs.Beneath.slot_arena.specs.declared.refs.Ref.{Ref}
use Rattle.proof_claims.specs.Held.{is_in}

among_by : (x : Ref) (xs : List Ref) (r : Ref) (b : Bool) → (x == r) ≡ b → (is_in xs r ≡ true → Contains xs r) → is_in (x ∷ xs) r ≡ true → Contains (x ∷ xs) r
among_by x xs r true is rest e = Contains-append_left (x ∷ []) xs r (subst (Contains (x ∷ [])) (eqb-true x r is) (Contains-push [] x))
among_by x xs r false is rest e = Contains-append_right (x ∷ []) xs r (rest (ap (λ b. b || is_in xs r) (sym is) ∙ e))

-- what the test finds is there
pub among : (xs : List Ref) (r : Ref) → is_in xs r ≡ true → Contains xs r
among [] r e = absurd (true≢false (sym e))
among (x ∷ xs) r e = among_by x xs r (x == r) refl (among xs r) e

-- and what is there it finds
pub found_in : (xs : List Ref) (r : Ref) → Contains xs r → is_in xs r ≡ true
found_in [] r (i, within, at_i) = absurd (omega arith)
found_in (x ∷ xs) r c = elim (Contains-append_cases (x ∷ []) xs r c) [
  | inl first ↦ ap (λ b. b || is_in xs r) (eq-eqb x r (only x r first))
  | inr rest ↦ or_true (x == r) (is_in xs r) (found_in xs r rest)
]
  where
    only : (x r : Ref) → Contains (x ∷ []) r → x ≡ r
    only x r (i, within, at_i) = let zero_is : i ≡ 0 = omega arith in subst (λ k. get_or (x ∷ []) k r ≡ r) zero_is at_i

    or_true : (a b : Bool) → b ≡ true → (a || b) ≡ true
    or_true true b e = refl
    or_true false b e = e

-- a pair that is found
pub both_true : (a b : Bool) → (a && b) ≡ true → (a ≡ true) × (b ≡ true)
both_true true b e = (refl, e)
both_true false b e = absurd (true≢false (sym e))

-- what one of the elements brings is in the whole
pub in_flat : {A B : Type 0} (f : A → List B) (xs : List A) (c : A) (y : B) → Contains xs c → Contains (f c) y → Contains (flat_map f xs) y
in_flat f [] c y (i, within, at_i) k = absurd (omega arith)
in_flat f (x ∷ xs) c y here k =
    subst (λ cs. Contains cs y) (sym (flat_map-cons f x xs)) (elim (Contains-append_cases (x ∷ []) xs c here) [
      | inl first ↦ Contains-append_left (f x) (flat_map f xs) y (subst (λ z. Contains (f z) y) (sym (only x c first)) k)
      | inr rest ↦ Contains-append_right (f x) (flat_map f xs) y (in_flat f xs c y rest k)
    ])
  where
    only : {A : Type 0} (x c : A) → Contains (x ∷ []) c → x ≡ c
    only x c (i, within, at_i) = let zero_is : i ≡ 0 = omega arith in subst (λ k. get_or (x ∷ []) k c ≡ c) zero_is at_i
