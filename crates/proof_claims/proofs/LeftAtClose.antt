-- What is given to a close as it begins.
use Rattle.std.proofs.Common.{◌≡◌, ◌==◌, ◌&&◌, ℕ, Bool, true, false, refl, sym, ap, ◌∙◌, eqb-true, eq-eqb}
use Rattle.std.proofs.lemmas.Bool.{true≢false}
use Rattle.proof_claims.specs.Beneath.slot_arena.specs.declared.refs.Ref.{Ref}
use Rattle.proof_claims.specs.Beneath.machine_model.specs.Machine.{run}
use Rattle.proof_claims.specs.Beneath.machine_model.specs.States.{root_of, word_at, word_of}
use Rattle.proof_claims.specs.Changes.{fate_let_go, lets_root_go}
use Rattle.proof_claims.specs.Claims.{Has, held_of, how_often}
use Rattle.proof_claims.specs.Different.{AreDifferent}
use Rattle.proof_claims.specs.Held.{Claim, Given, Held, Holder, OfHandle, Stays, gives, is_by_handle}
use Rattle.proof_claims.specs.Left.{GivenByClose, once}
use Rattle.proof_claims.proofs.ClaimsDiffer.{claims_fit}
use Rattle.proof_claims.proofs.Givings.{given_none, given_once}
use Rattle.proof_claims.proofs.Lists.{both_true}
use Rattle.proof_claims.proofs.NewClaims.{by_its_handle}
use Rattle.proof_claims.proofs.Outcomes.{each_held}

stays_given : {h : Holder} → Stays h ≡ Given → ⊥
stays_given e = cc e

module _ (held : Held) (differ : AreDifferent held.claims) (handle : ℕ) (root : Ref) where
  let_go : (c : Claim) → fate_let_go (is_by_handle handle c.by && (c.on == root)) c ≡ Given → (c.by ≡ OfHandle handle) × (c.on ≡ root)
  let_go c e = by (is_by_handle handle c.by && (c.on == root)) refl e
    where
      by : (b : Bool) → (is_by_handle handle c.by && (c.on == root)) ≡ b → fate_let_go b c ≡ Given → (c.by ≡ OfHandle handle) × (c.on ≡ root)
      by true is e = let (a, same) = both_true (is_by_handle handle c.by) (c.on == root) is in (by_its_handle handle c.by a, eqb-true c.on root same)
      by false is e = absurd (stays_given e)

  -- where the handle has a claim on its root, that is given, and nothing else
  pub root_given : Has held (OfHandle handle) root → (k : Ref) → how_often k (gives (lets_root_go handle root) held.claims) ≡ once (root == k)
  root_given has k = by (root == k) refl
    where
      by : (b : Bool) → (root == k) ≡ b → how_often k (gives (lets_root_go handle root) held.claims) ≡ once b
      by true e =
          given_once (lets_root_go handle root) k refl held.claims differ (record { by = OfHandle handle; on = root }) has
          (ap (λ b. fate_let_go b (record { by = OfHandle handle; on = root })) (ap (λ b. b && (root == root)) (eq-eqb handle handle refl) ∙ eq-eqb root root refl)) (eqb-true root k e)
          (λ d in_d is on_k.
          let (its, on) = let_go d is in ap (λ b. record { by = b; on = d.on }) its ∙ ap (λ r. record { by = OfHandle handle; on = r }) on)
      by false e =
          given_none (lets_root_go handle root) k refl held.claims (λ c in_c is on_k. let (its, on) = let_go c is in true≢false (sym (eq-eqb root k (sym on ∙ on_k)) ∙ e))

pub given_by_close : GivenByClose
given_by_close limits steps actor handle number root k ok keys open_then =
    let held = held_of limits steps in
    let word : root_of (word_at (run limits steps) handle) ≡ root_of root.word = ap (λ x. root_of (word_of x)) open_then in
    ap (λ r. how_often k (gives (lets_root_go handle r) held.claims)) word
    ∙ root_given held (claims_fit limits ok steps keys).differ handle (root_of root.word) ((each_held limits ok steps).roots handle root open_then) k
