-- What every step keeps: who is about to swap a node in still is, but who takes the step; and claims where the change is none.
use Rattle.std.proofs.Common.{◌≡◌, ◌⊎◌, inl, inr, ℕ, suc, List, Option, Some, None, get_or, refl, sym, ap, subst, ◌∙◌}
use Rattle.proof_claims.specs.Beneath.slot_arena.specs.declared.refs.Ref.{Ref}
use Rattle.proof_claims.specs.Beneath.machine_model.specs.declared.actions.Action.TheVariants as act
use Rattle.proof_claims.specs.Beneath.machine_model.specs.declared.lines.Line.TheVariants as line
use Rattle.proof_claims.specs.Beneath.machine_model.specs.declared.lines.Purpose.{Purpose}
use Rattle.proof_claims.specs.Beneath.machine_model.specs.declared.operations.Operation.{Operation}
use Rattle.proof_claims.specs.Beneath.machine_model.specs.declared.roots.Descriptor.{Descriptor}
use Rattle.proof_claims.specs.Beneath.machine_model.specs.declared.roots.Root.{Root}
use Rattle.proof_claims.specs.Beneath.machine_model.specs.declared.roots.RootWord.TheVariants.{Offer}
use Rattle.proof_claims.specs.Beneath.machine_model.specs.declared.steps.Outcome.{Outcome}
use Rattle.proof_claims.specs.Beneath.machine_model.specs.declared.steps.Step.{Step}
use Rattle.proof_claims.specs.Beneath.machine_model.specs.declared.steps.Step.TheVariants as step
use Rattle.proof_claims.specs.Beneath.machine_model.specs.Moves.{Moves}
use Rattle.proof_claims.specs.Beneath.machine_model.specs.Operations.{action_of, line_action}
use Rattle.proof_claims.specs.Beneath.machine_model.specs.States.{State, operation_of, root_at, root_of}
use Rattle.proof_claims.specs.Beneath.machine_model.specs.Swapping.{swapping}
use Rattle.proof_claims.specs.Beneath.machine_model.proofs.Actors.{mark_one, mark_only, marks_in}
use Rattle.proof_claims.specs.Beneath.machine_model.proofs.Fates.{Follows, ends, follows, gives_up, place_of_actor, rests, steps}
use Rattle.proof_claims.specs.Held.{Held, Holder, OfHandle, held_after}
use Rattle.proof_claims.specs.Changes.{no_change}
use Rattle.proof_claims.specs.Claims.{Has}
use Rattle.proof_claims.specs.Clauses.{EachIsHeld}
use Rattle.proof_claims.proofs.Along.{stays}

-- ---- who swaps in

module _ (state : State) (s : Step) (o : Outcome) (after : State) (m : Moves state s o after) (Lost : Ref → Type 0)
    (own : (actor : ℕ) (operation : Operation) (why : Purpose) (i p f : Ref) → operation_of state actor ≡ Some operation → operation.line ≡ line.Swap why (swapping i p f) →
    (s ≡ step.Go actor) ⊎ (s ≡ step.GiveUp actor) → Lost f) where
  abbrev Still : ℕ → Purpose → Ref → Ref → Ref → Type 0
  Still actor why i p f = ((other : Operation) × (operation_of after actor ≡ Some other) × (other.line ≡ line.Swap why (swapping i p f))) ⊎ Lost f

  by_fate : (k : ℕ) (operation : Operation) (why : Purpose) (i p f : Ref) → operation_of state (suc k) ≡ Some operation → operation.line ≡ line.Swap why (swapping i p f) →
      Follows state s after k operation → Still (suc k) why i p f
  by_fate k operation why i p f runs on (rests other at_k) =
      inl (mark_one (marks_in state s) operation, at_k, ap (λ (x : Operation). x.line) (mark_only (marks_in state s) operation) ∙ on)
  by_fate k operation why i p f runs on (steps is goes at_k) = inr (own (suc k) operation why i p f runs on (inl is))
  by_fate k operation why i p f runs on (ends answer is a) = inr (own (suc k) operation why i p f runs on (inl is))
  by_fate k operation why i p f runs on (gives_up answer is given at_k) = inr (own (suc k) operation why i p f runs on (inr is))

  pub still_publishes : (actor : ℕ) (operation : Operation) (why : Purpose) (i p f : Ref) → operation_of state actor ≡ Some operation → operation.line ≡ line.Swap why (swapping i p f) →
      Still actor why i p f
  still_publishes actor operation why i p f runs on =
      let (k, is, at_k) = place_of_actor state actor operation runs in
      let here = subst (λ a. operation_of state a ≡ Some operation) is runs in
      subst (λ a. Still a why i p f) (sym is) (by_fate k operation why i p f here on (follows state s o after m k operation at_k))

-- who is about to do something else isn't about to swap in
pub publishes_then : (state : State) (operation : Operation) (why : Purpose) (i p f : Ref) → operation.line ≡ line.Swap why (swapping i p f) → action_of state operation ≡ act.Publish i p f
publishes_then state operation why i p f on = ap (λ l. line_action state operation l) on

-- ---- handles

-- where root words stay, and what handles hold, it is held by them
module _ (state after : State) (held later : Held) (Gone : Ref → Type 0) (h : EachIsHeld state held Gone) (same : after.roots ≡ state.roots)
    (keeps : (handle : ℕ) (r : Ref) → Has held (OfHandle handle) r → Has later (OfHandle handle) r) where
  root_same : (handle : ℕ) → root_at after handle ≡ root_at state handle
  root_same handle = ap (λ (roots : List (Option Root)). get_or roots handle None) same

  pub roots_still : (handle : ℕ) (root : Root) → root_at after handle ≡ Some root → Has later (OfHandle handle) (root_of root.word)
  roots_still handle root e = keeps handle (root_of root.word) (h.roots handle root (sym (root_same handle) ∙ e))

  pub successors_still : (handle : ℕ) (root : Root) (offer : Descriptor) → root_at after handle ≡ Some root → root.word ≡ Offer offer → Has later (OfHandle handle) offer.successor
  successors_still handle root offer e w = keeps handle offer.successor (h.successors handle root offer (sym (root_same handle) ∙ e) w)

  pub seconds_still : (handle : ℕ) (root : Root) (offer : Descriptor) (opens : ℕ) (second : Ref) → root_at after handle ≡ Some root → root.word ≡ Offer offer → offer.opens ≡ Some opens →
      offer.second ≡ Some second → Has later (OfHandle opens) second
  seconds_still handle root offer opens second e w is_opens is_second =
      keeps opens second (h.seconds handle root offer opens second (sym (root_same handle) ∙ e) w is_opens is_second)

-- ---- no change

pub same_has : (held : Held) (by : Holder) (on : Ref) → Has held by on → Has (held_after no_change held) by on
same_has held by on has = stays no_change held by by on has refl
