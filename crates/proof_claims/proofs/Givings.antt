-- How often what a step gives to its actor has a reference.
use Rattle.std.proofs.Common.{◌≡◌, ℕ, ◌==◌, ◌&&◌, Bool, true, false, List, [], ◌++◌, Contains, cond, flat_map, count_by, arith, refl, sym, ap, ◌∙◌, eqb-true, eq-eqb}
use Rattle.std.proofs.lemmas.Bool.{true≢false}
use Rattle.std.proofs.lemmas.List.Sums.{sum_by-append, sum_by-cons}
use Rattle.proof_claims.specs.Beneath.slot_arena.specs.declared.refs.Ref.{Ref}
use Rattle.proof_claims.specs.Claims.{how_often}
use Rattle.proof_claims.specs.Different.{AreDifferent}
use Rattle.proof_claims.specs.Held.{Change, Claim, Ends, Fate, Given, Stays, given_by, gives}
use Rattle.proof_claims.proofs.Differing.{count_flat, count_none, count_one}
use Rattle.proof_claims.proofs.Lists.{both_true}

abbrev pub is_given : Fate → Bool
is_given Given = true
is_given (Stays by) = false
is_given Ends = false

given_so : (f : Fate) → is_given f ≡ true → f ≡ Given
given_so Given e = refl
given_so (Stays by) e = absurd (true≢false (sym e))
given_so Ends e = absurd (true≢false (sym e))

module _ (change : Change) (k : Ref) where
  abbrev pub counts : Claim → Bool
  counts c = is_given (change.fate c) && (c.on == k)

  one_by_one : (f : Fate) (r : Ref) → how_often k (given_by f r) ≡ cond (is_given f && (r == k)) 1 0
  one_by_one Given r = let whole = sum_by-cons (λ (x : Ref). cond (x == k) 1 0) r [] in omega (arith, whole)
  one_by_one (Stays by) r = refl
  one_by_one Ends r = refl

  given_count : (claims : List Claim) → how_often k (flat_map (λ (c : Claim). given_by (change.fate c) c.on) claims) ≡ count_by counts claims
  given_count claims = count_flat (λ (x : Ref). x == k) (λ (c : Claim). given_by (change.fate c) c.on) counts (λ c. one_by_one (change.fate c) c.on) claims

  module _ (nothing : change.made ≡ []) (claims : List Claim) where
    pub gives_count : how_often k (gives change claims) ≡ count_by counts claims
    gives_count = ap (λ l. how_often k (l ++ flat_map (λ (c : Claim). given_by (change.fate c) c.on) claims)) nothing ∙ given_count claims

    -- no claim on it is given
    pub given_none : ((c : Claim) → Contains claims c → change.fate c ≡ Given → c.on ≡ k → ⊥) → how_often k (gives change claims) ≡ 0
    given_none none = gives_count ∙ count_none counts claims (λ c stands. by c stands (counts c) refl)
      where
        by : (c : Claim) → Contains claims c → (b : Bool) → counts c ≡ b → counts c ≡ false
        by c stands false e = e
        by c stands true e = let (a, same) = both_true (is_given (change.fate c)) (c.on == k) e in absurd (none c stands (given_so (change.fate c) a) (eqb-true c.on k same))

    -- one is, and no other
    pub given_once : AreDifferent claims → (c : Claim) → Contains claims c → change.fate c ≡ Given → c.on ≡ k → ((d : Claim) → Contains claims d → change.fate d ≡ Given → d.on ≡ k → d ≡ c) →
        how_often k (gives change claims) ≡ 1
    given_once differ c stands is on only =
        gives_count
        ∙ count_one counts claims differ c stands (ap (λ f. is_given f && (c.on == k)) is ∙ eq-eqb c.on k on)
        (λ d in_d e. let (a, same) = both_true (is_given (change.fate d)) (d.on == k) e in only d in_d (given_so (change.fate d) a) (eqb-true d.on k same))

-- where none is given only what is made is
pub only_made : (change : Change) (k : Ref) (claims : List Claim) → ((c : Claim) → change.fate c ≡ Given → ⊥) → how_often k (gives change claims) ≡ how_often k change.made
only_made change k claims none =
    let parts = sum_by-append (λ (x : Ref). cond {A = ℕ} (x == k) 1 0) change.made (flat_map (λ (c : Claim). given_by (change.fate c) c.on) claims) in
    let rest = given_count change k claims ∙ count_none (counts change k) claims (λ c stands. by c (change.fate c) refl) in
    omega (arith, parts, rest)
  where
    by : (c : Claim) (f : Fate) → change.fate c ≡ f → counts change k c ≡ false
    by c Given is = absurd (none c is)
    by c (Stays h) is = ap (λ f. is_given f && (c.on == k)) is
    by c Ends is = ap (λ f. is_given f && (c.on == k)) is
