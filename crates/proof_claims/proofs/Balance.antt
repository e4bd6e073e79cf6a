-- What a step gives it takes from claims, and the claims that it adds are on what it takes.
use Rattle.std.proofs.Common.{◌≡◌, ◌≤◌, ℕ, ◌+◌, ◌==◌, List, [], ◌∷◌, cond, flat_map, map, refl, ap, ◌∙◌, arith}
use Rattle.std.proofs.lemmas.List.Concat.{flat_map-cons}
use Rattle.std.proofs.lemmas.List.Sums.{sum_by-append, sum_by-cons}
use Rattle.proof_claims.specs.Beneath.slot_arena.specs.declared.refs.Ref.{Ref}
use Rattle.proof_claims.specs.Held.{Change, Claim, Ends, Fate, Given, Stays, claims_after, gives, given_by, kept_by, takes}
use Rattle.proof_claims.specs.Claims.{claims_on, how_often}

module _ (k : Ref) where
  abbrev of_claim : Claim → ℕ
  of_claim c = cond (c.on == k) 1 0

  abbrev of_ref : Ref → ℕ
  of_ref x = cond (x == k) 1 0

  one : (f : Fate) (r : Ref) → claims_on k (kept_by f r) + how_often k (given_by f r) ≤ of_ref r
  one (Stays by) r = let here = sum_by-cons of_claim (record { by = by; on = r }) [] in omega (arith, here)
  one Given r = let here = sum_by-cons of_ref r [] in omega (arith, here)
  one Ends r = omega arith

  module _ (change : Change) where
    abbrev kept : List Claim → List Claim
    kept = flat_map (λ (c : Claim). kept_by (change.fate c) c.on)

    abbrev given : List Claim → List Ref
    given = flat_map (λ (c : Claim). given_by (change.fate c) c.on)

    from_claims : (claims : List Claim) → claims_on k (kept claims) + how_often k (given claims) ≤ claims_on k claims
    from_claims [] = omega arith
    from_claims (c ∷ claims) =
        let keeps = ap (claims_on k) (flat_map-cons (λ (c : Claim). kept_by (change.fate c) c.on) c claims) ∙ sum_by-append of_claim (kept_by (change.fate c) c.on) (kept claims) in
        let givings = ap (how_often k) (flat_map-cons (λ (c : Claim). given_by (change.fate c) c.on) c claims) ∙ sum_by-append of_ref (given_by (change.fate c) c.on) (given claims) in
        let first = one (change.fate c) c.on in
        let rest = from_claims claims in
        let all = sum_by-cons of_claim c claims in
        omega (arith, keeps, givings, first, rest, all)

  taken_on : (claims : List Claim) → claims_on k claims ≡ how_often k (map (λ (c : Claim). c.on) claims)
  taken_on [] = refl
  taken_on (c ∷ claims) =
      let all = sum_by-cons of_claim c claims in
      let ons = sum_by-cons of_ref c.on (map (λ (c : Claim). c.on) claims) in
      let rest = taken_on claims in
      omega (arith, all, ons, rest)

  pub balance : (change : Change) (claims : List Claim) →
      claims_on k (claims_after change claims) + how_often k (gives change claims) ≤ claims_on k claims + how_often k (takes change) + how_often k change.made
  balance change claims =
      let after = sum_by-append of_claim (kept change claims) change.added in
      let giving = sum_by-append of_ref change.made (given change claims) in
      let old = from_claims change claims in
      let new = taken_on change.added in
      omega (arith, after, giving, old, new)
