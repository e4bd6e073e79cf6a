-- Numbers of words with what is known of each: one more, and the only one of its word.
use Rattle.std.proofs.Common.{◌≡◌, ◌≢◌, ◌⊎◌, ℕ, ◌==◌, inl, inr, Bool, true, false, not, List, [], ◌∷◌, Contains, filter, cond, refl, sym, ap, subst, ◌∙◌, arith, ne_eqb}
use Rattle.std.proofs.lemmas.Bool.{eq-eqb, false≢true}
use Rattle.std.proofs.lemmas.List.Elements.{All-contains, All-filter, All-contains_itself, filter_passes}
use Rattle.lock_free.specs.Making.{with_draft, others_than}
use Rattle.lock_free.proofs.Pools.{first_there, more_there, first_or_more}

module _ {X : Type 0} (of : X → ℕ) (n : ℕ) where
  abbrev differs : X → Bool
  differs y = not (of y == n)

  -- what is left without those of one number
  pub left : (xs : List X) (x : X) → Contains (filter differs xs) x → (of x ≢ n) × Contains xs x
  left xs x c = (
    (λ same. false≢true (sym (ap not (eq-eqb (of x) n same)) ∙ All-contains (λ y. differs y ≡ true) (filter differs xs) x (filter_passes differs xs) c)),
    All-contains (Contains xs) (filter differs xs) x (All-filter differs (Contains xs) xs (All-contains_itself xs)) c,
  )

-- what passes a test is among what does
pub passes : {X : Type 0} (f : X → Bool) (xs : List X) (x : X) → f x ≡ true → Contains xs x → Contains (filter f xs) x
passes f [] x is c = absurd (omega (arith, c.1))
passes f (y ∷ ys) x is c = by (f y) refl (first_or_more y ys x c) (passes f ys x is)
  where
    by : (b : Bool) → f y ≡ b → (x ≡ y) ⊎ Contains ys x → (Contains ys x → Contains (filter f ys) x) → Contains (filter f (y ∷ ys)) x
    by b e (inl same) rest = subst (λ z. Contains (cond z (y ∷ filter f ys) (filter f ys)) x) (sym (ap f (sym same) ∙ is))
        (subst (λ z. Contains (y ∷ filter f ys) z) (sym same) (first_there y (filter f ys)))
    by true e (inr more) rest = subst (λ z. Contains (cond z (y ∷ filter f ys) (filter f ys)) x) (sym e) (more_there y (filter f ys) x (rest more))
    by false e (inr more) rest = subst (λ z. Contains (cond z (y ∷ filter f ys) (filter f ys)) x) (sym e) (rest more)

-- and so does what has another number
pub others_left : {X : Type 0} (of : X → ℕ) (n : ℕ) (xs : List X) (x : X) → of x ≢ n → Contains xs x → Contains (filter (λ y. not (of y == n)) xs) x
others_left of n xs x apart c = passes (λ y. not (of y == n)) xs x (ap not (ne_eqb (of x) n apart)) c

-- what is written of another word stays
pub written_still : (drafts : List (ℕ × ℕ)) (j x i w : ℕ) → i ≢ j → Contains drafts (i, w) → Contains (with_draft drafts j x) (i, w)
written_still drafts j x i w apart c =
    more_there (j, x) (others_than j drafts) (i, w) (others_left (λ (d : ℕ × ℕ). d.0) j drafts (i, w) apart c)

-- what is there then is the new one, or one of another word
pub which : (j x : ℕ) (drafts : List (ℕ × ℕ)) (d : ℕ × ℕ) → Contains (with_draft drafts j x) d → (d ≡ (j, x)) ⊎ ((d.0 ≢ j) × Contains drafts d)
which j x drafts d c = elim (first_or_more (j, x) (others_than j drafts) d c) [
  | inl first ↦ inl first
  | inr more ↦ inr (left (λ (e : ℕ × ℕ). e.0) j drafts d more)
]
