-- How many claims on a reference are by nodes of a list.
use Rattle.std.proofs.Common.{◌≡◌, ◌⊎◌, inl, inr, ◌==◌, ◌&&◌, ◌+◌, ℕ, Bool, true, false, List, [], ◌∷◌, Contains, cond, count_by, arith, refl, sym, ap, subst, ◌∙◌, eqb-true, eq-eqb}
use Rattle.std.proofs.lemmas.Bool.{true≢false}
use Rattle.std.proofs.lemmas.List.Sums.{sum_by-cons}
use Rattle.proof_claims.specs.Beneath.slot_arena.specs.declared.refs.Ref.{Ref}
use Rattle.proof_claims.specs.Different.{AreDifferent}
use Rattle.proof_claims.specs.Held.{Claim, Holder, OfHandle, OfNode, is_by_nodes}
use Rattle.proof_claims.proofs.Differing.{count_none, count_one, first_in, in_cons, later_in, nothing_in}
use Rattle.proof_claims.proofs.Lists.{among, both_true, found_in}

-- one of two, and not both
either_so : (p a b : Bool) → (p ≡ true → (a ≡ true) ⊎ (b ≡ true)) → (a ≡ true → p ≡ true) → (b ≡ true → p ≡ true) → (a ≡ true → b ≡ true → ⊥) → cond {A = ℕ} p 1 0 ≡ cond a 1 0 + cond b 1 0
either_so true true true by of_a of_b apart = absurd (apart refl refl)
either_so true true false by of_a of_b apart = refl
either_so true false true by of_a of_b apart = refl
either_so true false false by of_a of_b apart = elim (by refl) [ inl e ↦ absurd (true≢false (sym e)) | inr e ↦ absurd (true≢false (sym e)) ]
either_so false true b by of_a of_b apart = absurd (true≢false (sym (of_a refl)))
either_so false false true by of_a of_b apart = absurd (true≢false (sym (of_b refl)))
either_so false false false by of_a of_b apart = refl

count_sum : {A : Type 0} (p a b : A → Bool) → ((x : A) → cond {A = ℕ} (p x) 1 0 ≡ cond (a x) 1 0 + cond (b x) 1 0) → (xs : List A) → count_by p xs ≡ count_by a xs + count_by b xs
count_sum p a b each [] = refl
count_sum p a b each (x ∷ xs) =
    let whole = sum_by-cons (λ y. cond {A = ℕ} (p y) 1 0) x xs in
    let left = sum_by-cons (λ y. cond {A = ℕ} (a y) 1 0) x xs in
    let right = sum_by-cons (λ y. cond {A = ℕ} (b y) 1 0) x xs in
    let here = each x in
    let rest = count_sum p a b each xs in
    omega (arith, whole, left, right, here, rest)

pub count_same : {A : Type 0} (p q : A → Bool) → ((x : A) → p x ≡ q x) → (xs : List A) → count_by p xs ≡ count_by q xs
count_same p q same [] = refl
count_same p q same (x ∷ xs) =
    let left = sum_by-cons (λ y. cond {A = ℕ} (p y) 1 0) x xs in
    let right = sum_by-cons (λ y. cond {A = ℕ} (q y) 1 0) x xs in
    let here : cond {A = ℕ} (p x) 1 0 ≡ cond (q x) 1 0 = ap (λ b. cond {A = ℕ} b 1 0) (same x) in
    let rest = count_same p q same xs in
    omega (arith, left, right, here, rest)

module _ (k : Ref) where
  abbrev claim : Ref → Claim
  claim x = record { by = OfNode x; on = k }

  abbrev pub by_these : List Ref → Claim → Bool
  by_these xs c = is_by_nodes xs c.by && (c.on == k)

  pub by_whom : (xs : List Ref) (c : Claim) → by_these xs c ≡ true → (x : Ref) × Contains xs x × (c ≡ record { by = OfNode x; on = k })
  by_whom xs c e = let (a, on) = both_true (is_by_nodes xs c.by) (c.on == k) e in by c.by refl a (eqb-true c.on k on)
    where
      by : (h : Holder) → c.by ≡ h → is_by_nodes xs h ≡ true → c.on ≡ k → (x : Ref) × Contains xs x × (c ≡ record { by = OfNode x; on = k })
      by (OfHandle n) is e on = absurd (true≢false (sym e))
      by (OfNode x) is e on = (x, among xs x e, ap (λ h. record { by = h; on = c.on }) is ∙ ap (λ r. record { by = OfNode x; on = r }) on)

  pub by_one_of : (xs : List Ref) (x : Ref) → Contains xs x → by_these xs (record { by = OfNode x; on = k }) ≡ true
  by_one_of xs x c = ap (λ b. b && (k == k)) (found_in xs x c) ∙ eq-eqb k k refl

  same_node : (x y : Ref) (c : Claim) → c ≡ claim x → c ≡ claim y → x ≡ y
  same_node x y c a b = let same : claim x ≡ claim y = sym a ∙ b in let holders : OfNode x ≡ OfNode y = ap (λ (d : Claim). d.by) same in cc holders

  module _ (claims : List Claim) (differ : AreDifferent claims) (q : Ref → Bool) where
    -- by one node: at most one
    by_one_node : (x : Ref) → (q x ≡ true → Contains claims (claim x)) → (q x ≡ false → Contains claims (claim x) → ⊥) → count_by (by_these (x ∷ [])) claims ≡ cond (q x) 1 0
    by_one_node x so not_so = by (q x) refl
      where
        its : (c : Claim) → by_these (x ∷ []) c ≡ true → c ≡ claim x
        its c e =
            let (y, stands, is) = by_whom (x ∷ []) c e in
            elim (in_cons x [] y stands) [ inl same ↦ is ∙ ap claim (sym same) | inr none ↦ nothing_in y none ]

        none_so : (q x ≡ false) → (c : Claim) → Contains claims c → (b : Bool) → by_these (x ∷ []) c ≡ b → by_these (x ∷ []) c ≡ false
        none_so isnt c stands false e = e
        none_so isnt c stands true e = absurd (not_so isnt (subst (Contains claims) (its c e) stands))

        by : (b : Bool) → q x ≡ b → count_by (by_these (x ∷ [])) claims ≡ cond b 1 0
        by true is = count_one (by_these (x ∷ [])) claims differ (claim x) (so is) (by_one_of (x ∷ []) x (first_in x [])) (λ c stands e. its c e)
        by false is = count_none (by_these (x ∷ [])) claims (λ c stands. none_so is c stands (by_these (x ∷ []) c) refl)

    pub count_these : (xs : List Ref) → AreDifferent xs → ((x : Ref) → Contains xs x → q x ≡ true → Contains claims (record { by = OfNode x; on = k })) →
        ((x : Ref) → Contains xs x → q x ≡ false → Contains claims (record { by = OfNode x; on = k }) → ⊥) → count_by (by_these xs) claims ≡ count_by q xs
    count_these [] d so not_so = count_none (by_these []) claims (λ c stands. by c (by_these [] c) refl)
      where
        by : (c : Claim) (b : Bool) → by_these [] c ≡ b → by_these [] c ≡ false
        by c false e = e
        by c true e = let (x, none, is) = by_whom [] c e in nothing_in x none
    count_these (x ∷ xs) d so not_so =
        let parts = count_sum (by_these (x ∷ xs)) (by_these (x ∷ [])) (by_these xs) each claims in
        let here = by_one_node x (so x (first_in x xs)) (not_so x (first_in x xs)) in
        let rest = count_these xs d.1 (λ y c. so y (later_in x xs y c)) (λ y c. not_so y (later_in x xs y c)) in
        let whole = sum_by-cons (λ y. cond {A = ℕ} (q y) 1 0) x xs in
        omega (arith, parts, here, rest, whole)
      where
        of_one : (c : Claim) → by_these (x ∷ []) c ≡ true → c ≡ claim x
        of_one c e =
            let (y, stands, is) = by_whom (x ∷ []) c e in
            elim (in_cons x [] y stands) [ inl same ↦ is ∙ ap claim (sym same) | inr none ↦ nothing_in y none ]

        by : (c : Claim) → by_these (x ∷ xs) c ≡ true → (by_these (x ∷ []) c ≡ true) ⊎ (by_these xs c ≡ true)
        by c e =
            let (y, stands, is) = by_whom (x ∷ xs) c e in
            elim (in_cons x xs y stands) [
              | inl same ↦ inl (subst (λ z. by_these (x ∷ []) z ≡ true) (sym (is ∙ ap claim (sym same))) (by_one_of (x ∷ []) x (first_in x [])))
              | inr there ↦ inr (subst (λ z. by_these xs z ≡ true) (sym is) (by_one_of xs y there))
            ]

        first : (c : Claim) → by_these (x ∷ []) c ≡ true → by_these (x ∷ xs) c ≡ true
        first c e = subst (λ z. by_these (x ∷ xs) z ≡ true) (sym (of_one c e)) (by_one_of (x ∷ xs) x (first_in x xs))

        later : (c : Claim) → by_these xs c ≡ true → by_these (x ∷ xs) c ≡ true
        later c e = let (y, stands, is) = by_whom xs c e in subst (λ z. by_these (x ∷ xs) z ≡ true) (sym is) (by_one_of (x ∷ xs) y (later_in x xs y stands))

        apart : (c : Claim) → by_these (x ∷ []) c ≡ true → by_these xs c ≡ true → ⊥
        apart c e f = let (y, stands, is) = by_whom xs c f in d.0 (subst (Contains xs) (sym (same_node x y c (of_one c e) is)) stands)

        each : (c : Claim) → cond {A = ℕ} (by_these (x ∷ xs) c) 1 0 ≡ cond (by_these (x ∷ []) c) 1 0 + cond (by_these xs c) 1 0
        each c = either_so (by_these (x ∷ xs) c) (by_these (x ∷ []) c) (by_these xs c) (by c) (first c) (later c) (apart c)
