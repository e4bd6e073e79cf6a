-- What becomes of claims at the step of a COMPLETE: it makes nothing, and gives claims of handles alone, or of the roots that were made for its offer.
use Rattle.std.proofs.Common.{◌≡◌, ◌==◌, ◌&&◌, ℕ, Bool, true, false, [], Contains, Option, Some, None, if◌then◌else◌, refl, sym}
use Rattle.std.proofs.lemmas.Bool.{true≢false}
use Rattle.machine_model.specs.Beneath.slot_arena.specs.declared.refs.Ref.{Ref}
use Rattle.machine_model.specs.Beneath.slot_arena.specs.Refs.{slot_of}
use Rattle.machine_model.specs.declared.copying.CopyLine.{CopyLine}
use Rattle.machine_model.specs.declared.copying.CopyLine.TheVariants as copy
use Rattle.machine_model.specs.declared.lines.Line.{Line}
use Rattle.machine_model.specs.declared.lines.Line.TheVariants as line
use Rattle.machine_model.specs.declared.operations.Operation.{Operation}
use Rattle.machine_model.specs.declared.roots.Descriptor.{Descriptor}
use Rattle.proof_claims.specs.Changes.{carried, completes, finds, freezes, outcome_at}
use Rattle.proof_claims.specs.Held.{Change, Claim, Ends, Given, Holder, OfHandle, OfNode, Stays, is_by_handle, is_by_nodes, is_by_some_handle, is_in}
use Rattle.proof_claims.proofs.Lists.{among}
use Rattle.lock_free.specs.Claims.{is_there}
use Rattle.lock_free.specs.Outcomes.{made_for}
use Rattle.lock_free.proofs.ClosedClaims.{handle_gives}

stays_given : {h : Holder} → Stays h ≡ Given → ⊥
stays_given e = cc e

-- ---- it makes nothing

carried_makes : (handle : ℕ) (offer : Descriptor) (second : Option Ref) (opens : Option ℕ) → (carried handle offer second opens).made ≡ []
carried_makes handle offer (Some second) opens = refl
carried_makes handle offer None None = refl
carried_makes handle offer None (Some opens) = refl

finds_makes : (handle : ℕ) (offer : Descriptor) (done : Bool) → (finds handle offer done).made ≡ []
finds_makes handle offer true = carried_makes handle offer offer.second offer.opens
finds_makes handle offer false = refl

copying_makes : (handle : ℕ) (offer : Descriptor) (l : CopyLine) (done : Bool) → (outcome_at handle offer (line.Copy l) done).made ≡ []
copying_makes handle offer (copy.Complete c) done = finds_makes handle offer done
copying_makes handle offer l done = refl

outcome_makes : (handle : ℕ) (offer : Descriptor) (l : Line) (done : Bool) → (outcome_at handle offer l done).made ≡ []
outcome_makes handle offer (line.Copy l) done = copying_makes handle offer l done
outcome_makes handle offer l done = refl

freezes_makes : (handle : ℕ) (offer : Descriptor) (second : Option Ref) (opens : Option ℕ) (otherwise : Change) → otherwise.made ≡ [] → (freezes handle offer second opens otherwise).made ≡ []
freezes_makes handle offer None (Some opens) otherwise h = refl
freezes_makes handle offer None None otherwise h = h
freezes_makes handle offer (Some second) opens otherwise h = h

pub completing_makes : (done : Bool) (handle : ℕ) (offer : Descriptor) (operation : Operation) → (completes done handle offer operation).made ≡ []
completing_makes true handle offer operation =
    freezes_makes handle offer offer.second offer.opens (outcome_at handle offer operation.line true) (outcome_makes handle offer operation.line true)
completing_makes false handle offer operation = outcome_makes handle offer operation.line operation.is_marked

-- ---- what it gives

-- what a change gives was claimed by who is there
abbrev Gives : (ℕ → Bool) → Change → Type 0
Gives stands change = (c : Claim) → change.fate c ≡ Given → is_there stands c.by ≡ true

module _ (stands : ℕ → Bool) (handle : ℕ) (offer : Descriptor) (standing : (r : Ref) → Contains (made_for offer) r → stands (slot_of r) ≡ true) where
  carried_gives : (second : Option Ref) (opens : Option ℕ) → Gives stands (carried handle offer second opens)
  carried_gives (Some second) opens c e = handle_gives stands handle offer.root c e
  carried_gives None None c e = handle_gives stands handle offer.root c e
  carried_gives None (Some opens) c e = absurd (stays_given e)

  made_there : (h : Holder) → is_by_nodes (made_for offer) h ≡ true → is_there stands h ≡ true
  made_there (OfHandle n) e = absurd (true≢false (sym e))
  made_there (OfNode j) e = standing j (among (made_for offer) j e)

  taken_back_gives : (c : Claim) (a b : Bool) → is_by_nodes (made_for offer) c.by ≡ a → (if a then Given else (if b then Ends else Stays c.by)) ≡ Given → is_there stands c.by ≡ true
  taken_back_gives c true b is e = made_there c.by is
  taken_back_gives c false true is e = let wrong : ⊥ = cc e in absurd wrong
  taken_back_gives c false false is e = absurd (stays_given e)

  finds_gives : (done : Bool) → Gives stands (finds handle offer done)
  finds_gives true c e = carried_gives offer.second offer.opens c e
  finds_gives false c e = taken_back_gives c (is_by_nodes (made_for offer) c.by) (is_by_some_handle c.by && is_in (made_for offer) c.on) refl e

  copying_gives : (l : CopyLine) (done : Bool) → Gives stands (outcome_at handle offer (line.Copy l) done)
  copying_gives (copy.Complete x) done c e = finds_gives done c e
  copying_gives l done c e = absurd (stays_given e)

  outcome_gives : (l : Line) (done : Bool) → Gives stands (outcome_at handle offer l done)
  outcome_gives (line.Copy l) done c e = copying_gives l done c e
  outcome_gives l done c e = absurd (stays_given e)

  frozen_gives : (moves : Bool) (opens : ℕ) (c : Claim) → (if moves then Stays (OfHandle opens) else Stays c.by) ≡ Given → ⊥
  frozen_gives true opens c e = stays_given e
  frozen_gives false opens c e = stays_given e

  freezes_gives : (second : Option Ref) (opens : Option ℕ) (otherwise : Change) → Gives stands otherwise → Gives stands (freezes handle offer second opens otherwise)
  freezes_gives None (Some opens) otherwise h c e = absurd (frozen_gives (is_by_handle handle c.by && (c.on == offer.root)) opens c e)
  freezes_gives None None otherwise h c e = h c e
  freezes_gives (Some second) opens otherwise h c e = h c e

  pub completing_gives : (done : Bool) (operation : Operation) → Gives stands (completes done handle offer operation)
  completing_gives true operation c e = freezes_gives offer.second offer.opens (outcome_at handle offer operation.line true) (outcome_gives operation.line true) c e
  completing_gives false operation c e = outcome_gives operation.line operation.is_marked c e
