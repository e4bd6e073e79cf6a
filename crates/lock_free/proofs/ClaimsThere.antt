-- A step leaves to holders that are there, and to its seat, no more references than they had, but one to a node that it makes.
use Rattle.std.proofs.Common.{◌≡◌, ◌≤◌, ◌+◌, ◌==◌, ◌&&◌, inl, inr, ℕ, Bool, true, false, List, [], ◌∷◌, Contains, cond, flat_map, get_or, map, not, refl, sym, ap, subst, ◌∙◌, arith}
use Rattle.std.proofs.lemmas.Bool.{cases_eq}
use Rattle.std.proofs.lemmas.List.Concat.{flat_map-cons}
use Rattle.std.proofs.lemmas.List.Elements.{Contains-append_cases, Contains-append_left, Contains-append_right, Contains-push}
use Rattle.std.proofs.lemmas.List.Sums.{sum_by-append, sum_by-cons}
use Rattle.machine_model.specs.Beneath.slot_arena.specs.declared.refs.Ref.{Ref}
use Rattle.proof_claims.specs.Held.{Change, Claim, Ends, Fate, Given, Holder, Stays, claims_after, gives, given_by, is_in, kept_by, takes}
use Rattle.proof_claims.specs.Claims.{how_often}
use Rattle.lock_free.specs.Claims.{HoldsAll, claims_there, is_claim_on, is_there, owed_beside, owes_after, without_all}
use Rattle.lock_free.specs.Counts.{without_one}
use Rattle.lock_free.proofs.Idle.{empty_has}
use Rattle.lock_free.proofs.CountsStay.{often_first, often_less, often_other, often_same}

-- ---- claims

more_there : (a x y : Bool) → (x ≡ true → y ≡ true) → cond {A = ℕ} (a && x) 1 0 ≤ cond (a && y) 1 0
more_there false x y h = omega arith
more_there true false y h = omega arith
more_there true true y h = let same = ap {B = ℕ} (λ b. cond b 1 0) (h refl) in omega (arith, same)

all_there : (a y : Bool) → y ≡ true → cond {A = ℕ} a 1 0 ≤ cond (a && y) 1 0
all_there false y h = omega arith
all_there true y h = let same = ap {B = ℕ} (λ b. cond b 1 0) h in omega (arith, same)

some_there : (a x : Bool) → cond {A = ℕ} (a && x) 1 0 ≤ cond a 1 0
some_there false x = omega arith
some_there true false = omega arith
some_there true true = omega arith

-- Where a claim that goes over to a holder that is there was one of such a holder, and a claim that is given to the seat too.
module _ (k : Ref) (before after : ℕ → Bool) (change : Change) (stays : (c : Claim) (by : Holder) → change.fate c ≡ Stays by → is_there after by ≡ true → is_there before c.by ≡ true)
    (given : (c : Claim) → change.fate c ≡ Given → is_there before c.by ≡ true) where
  abbrev of_ref : Ref → ℕ
  of_ref x = cond (x == k) 1 0

  abbrev was : Claim → ℕ
  was c = cond (is_claim_on before k c) 1 0

  abbrev is : Claim → ℕ
  is c = cond (is_claim_on after k c) 1 0

  one : (c : Claim) (f : Fate) → change.fate c ≡ f → claims_there after k (kept_by f c.on) + how_often k (given_by f c.on) ≤ was c
  one c (Stays by) e =
      let here = sum_by-cons is (record { by = by; on = c.on }) [] in let most = more_there (c.on == k) (is_there after by) (is_there before c.by) (stays c by e) in omega (arith, here, most)
  one c Given e = let here = sum_by-cons of_ref c.on [] in let most = all_there (c.on == k) (is_there before c.by) (given c e) in omega (arith, here, most)
  one c Ends e = omega arith

  abbrev kept : List Claim → List Claim
  kept = flat_map (λ (c : Claim). kept_by (change.fate c) c.on)

  abbrev gone : List Claim → List Ref
  gone = flat_map (λ (c : Claim). given_by (change.fate c) c.on)

  pub from_claims : (claims : List Claim) →
      claims_there after k (flat_map (λ (c : Claim). kept_by (change.fate c) c.on) claims) + how_often k (flat_map (λ (c : Claim). given_by (change.fate c) c.on) claims) ≤ claims_there before k claims
  from_claims [] = omega arith
  from_claims (c ∷ claims) =
      let keeps = ap (claims_there after k) (flat_map-cons (λ (c : Claim). kept_by (change.fate c) c.on) c claims) ∙ sum_by-append is (kept_by (change.fate c) c.on) (kept claims) in
      let givings = ap (how_often k) (flat_map-cons (λ (c : Claim). given_by (change.fate c) c.on) c claims) ∙ sum_by-append of_ref (given_by (change.fate c) c.on) (gone claims) in
      let first = one c (change.fate c) refl in
      let rest = from_claims claims in
      let all = sum_by-cons was c claims in
      omega (arith, keeps, givings, first, rest, all)

  taken_there : (claims : List Claim) → claims_there after k claims ≤ how_often k (map (λ (c : Claim). c.on) claims)
  taken_there [] = omega arith
  taken_there (c ∷ claims) =
      let all = sum_by-cons is c claims in
      let ons = sum_by-cons of_ref c.on (map (λ (c : Claim). c.on) claims) in
      let here = some_there (c.on == k) (is_there after c.by) in
      let rest = taken_there claims in
      omega (arith, all, ons, here, rest)

  pub there_balance : (claims : List Claim) →
      claims_there after k (claims_after change claims) + how_often k (gives change claims) ≤ claims_there before k claims + how_often k (takes change) + how_often k change.made
  there_balance claims =
      let all = sum_by-append is (kept claims) change.added in
      let giving = sum_by-append of_ref change.made (gone claims) in
      let old = from_claims claims in
      let new = taken_there change.added in
      omega (arith, all, giving, old, new)

-- The same of the claims alone, whatever is given to the seat.
module _ (k : Ref) (before after : ℕ → Bool) (change : Change) (stays : (c : Claim) (by : Holder) → change.fate c ≡ Stays by → is_there after by ≡ true → is_there before c.by ≡ true) where
  one_stays : (c : Claim) (f : Fate) → change.fate c ≡ f → claims_there after k (kept_by f c.on) ≤ cond {A = ℕ} (is_claim_on before k c) 1 0
  one_stays c (Stays by) e =
      let here = sum_by-cons (λ (x : Claim). cond {A = ℕ} (is_claim_on after k x) 1 0) (record { by = by; on = c.on }) [] in
      let most = more_there (c.on == k) (is_there after by) (is_there before c.by) (stays c by e) in omega (arith, here, most)
  one_stays c Given e = omega arith
  one_stays c Ends e = omega arith

  pub claims_stay : (claims : List Claim) → claims_there after k (flat_map (λ (c : Claim). kept_by (change.fate c) c.on) claims) ≤ claims_there before k claims
  claims_stay [] = omega arith
  claims_stay (c ∷ claims) =
      let is : Claim → ℕ = λ x. cond (is_claim_on after k x) 1 0 in
      let keeps = ap (claims_there after k) (flat_map-cons (λ (c : Claim). kept_by (change.fate c) c.on) c claims)
      ∙ sum_by-append is (kept_by (change.fate c) c.on) (flat_map (λ (c : Claim). kept_by (change.fate c) c.on) claims) in
      let first = one_stays c (change.fate c) refl in
      let rest = claims_stay claims in
      let all = sum_by-cons (λ (x : Claim). cond {A = ℕ} (is_claim_on before k x) 1 0) c claims in
      omega (arith, keeps, first, rest, all)

-- where fewer holders are there
pub fewer_there : (k : Ref) (before after : ℕ → Bool) → ((by : Holder) → is_there after by ≡ true → is_there before by ≡ true) → (claims : List Claim) →
    claims_there after k claims ≤ claims_there before k claims
fewer_there k before after fewer [] = omega arith
fewer_there k before after fewer (c ∷ claims) =
    let now = sum_by-cons (λ (x : Claim). cond {A = ℕ} (is_claim_on after k x) 1 0) c claims in
    let was = sum_by-cons (λ (x : Claim). cond {A = ℕ} (is_claim_on before k x) 1 0) c claims in
    let first = more_there (c.on == k) (is_there after c.by) (is_there before c.by) (fewer c.by) in
    let rest = fewer_there k before after fewer claims in
    omega (arith, now, was, first, rest)

-- ---- what a seat holds

pub often_has : (k : Ref) (owed : List Ref) → 1 ≤ how_often k owed → Contains owed k
often_has k [] some = absurd (omega (arith, some))
often_has k (x ∷ owed) some = elim (cases_eq x k) [
  | inl same ↦ subst (λ r. Contains (x ∷ owed) r) same (Contains-append_left (x ∷ []) owed x (Contains-push [] x))
  | inr differs ↦ (let others = often_other k x owed differs in Contains-append_right (x ∷ []) owed k (often_has k owed (omega (arith, some, others))))
]

pub has_often : (k : Ref) (owed : List Ref) → Contains owed k → 1 ≤ how_often k owed
has_often k owed has = let less = often_less k owed has in omega (arith, less)

-- the rest of them is there without the first one
rest_held : (x : Ref) (ks owed : List Ref) → HoldsAll (x ∷ ks) owed → HoldsAll ks (without_one x owed)
rest_held x ks owed holds k = elim (cases_eq k x) [
  | inl same ↦
      subst (λ r. how_often r ks ≤ how_often r (without_one x owed)) (sym same)
      (let all = holds x in
      let first = often_first x ks in
      let less = often_less x owed (often_has x owed (omega (arith, all, first))) in omega (arith, all, first, less))
  | inr differs ↦ (let all = holds k in let others = often_other k x ks (λ e. differs (sym e)) in let rest = often_same k x owed (λ e. differs (sym e)) in omega (arith, all, others, rest))
]

pub often_without : (k : Ref) (ks owed : List Ref) → HoldsAll ks owed → how_often k (without_all ks owed) + how_often k ks ≡ how_often k owed
often_without k [] owed holds = omega arith
often_without k (x ∷ ks) owed holds =
    let rest = often_without k ks (without_one x owed) (rest_held x ks owed holds) in elim (cases_eq x k) [
      | inl same ↦
          (let first = subst (λ r. how_often r (r ∷ ks) ≡ how_often r ks + 1) same (often_first x ks) in
          let shown = ap (λ r. how_often k (r ∷ ks)) same in
          let all = holds x in
          let own = often_first x ks in
          let less = subst (λ r. how_often r (without_one x owed) + 1 ≡ how_often r owed) same (often_less x owed (often_has x owed (omega (arith, all, own)))) in
          omega (arith, rest, first, shown, less))
      | inr differs ↦ (let others = often_other k x ks differs in let same = often_same k x owed differs in omega (arith, rest, others, same))
    ]

-- ---- what isn't among nodes that are given up

module _ (private : List Ref) where
  beside_by : (x k : Ref) (xs : List Ref) (b : Bool) → is_in private x ≡ b → (Contains (owed_beside private xs) k → Contains xs k × (is_in private k ≡ false)) →
      Contains (cond (not b) (x ∷ owed_beside private xs) (owed_beside private xs)) k → Contains (x ∷ xs) k × (is_in private k ≡ false)
  beside_by x k xs true is rest c = let y = rest c in (Contains-append_right (x ∷ []) xs k y.0, y.1)
  beside_by x k xs false is rest c = elim (Contains-append_cases (x ∷ []) (owed_beside private xs) k c) [
    | inl first ↦ (
      Contains-append_left (x ∷ []) xs k first,
      subst (λ r. is_in private r ≡ false) (one_there x k first) is,
    )
    | inr later ↦ (let y = rest later in (Contains-append_right (x ∷ []) xs k y.0, y.1))
  ]
    where
      one_there : (y z : Ref) → Contains (y ∷ []) z → y ≡ z
      one_there y z (i, within, at_i) = let zero_is : i ≡ 0 = omega arith in subst (λ n. get_or (y ∷ []) n z ≡ z) zero_is at_i

  pub beside_has : (xs : List Ref) (k : Ref) → Contains (owed_beside private xs) k → Contains xs k × (is_in private k ≡ false)
  beside_has [] k c = absurd (empty_has k c)
  beside_has (x ∷ xs) k c = beside_by x k xs (is_in private x) refl (beside_has xs k) c

  fewer_beside : (x k : Ref) (rest xs : List Ref) (stays : Bool) → how_often k rest ≤ how_often k xs → how_often k (cond stays (x ∷ rest) rest) ≤ how_often k (x ∷ xs)
  fewer_beside x k rest xs true h =
      let one = sum_by-cons (λ (y : Ref). cond {A = ℕ} (y == k) 1 0) x rest in let all = sum_by-cons (λ (y : Ref). cond {A = ℕ} (y == k) 1 0) x xs in omega (arith, one, all, h)
  fewer_beside x k rest xs false h = let all = sum_by-cons (λ (y : Ref). cond {A = ℕ} (y == k) 1 0) x xs in omega (arith, all, h)

  pub beside_fewer : (xs : List Ref) (k : Ref) → how_often k (owed_beside private xs) ≤ how_often k xs
  beside_fewer [] k = omega arith
  beside_fewer (x ∷ xs) k = fewer_beside x k (owed_beside private xs) xs (not (is_in private x)) (beside_fewer xs k)

-- ---- both

module _ (k : Ref) (before after : ℕ → Bool) (change : Change) (stays : (c : Claim) (by : Holder) → change.fate c ≡ Stays by → is_there after by ≡ true → is_there before c.by ≡ true)
    (given : (c : Claim) → change.fate c ≡ Given → is_there before c.by ≡ true) where
  pub step_balance : (claims : List Claim) (owed : List Ref) → HoldsAll (takes change) owed →
      claims_there after k (claims_after change claims) + how_often k (owes_after change claims owed) ≤ claims_there before k claims + how_often k owed + how_often k change.made
  step_balance claims owed holds =
      let there = there_balance k before after change stays given claims in
      let rest = often_without k (takes change) owed holds in
      let parts = sum_by-append (λ (x : Ref). cond (x == k) 1 0) (gives change claims) (without_all (takes change) owed) in
      omega (arith, there, rest, parts)
