-- Who swaps a main node in puts nothing back but what is private: offers alone do.
use Rattle.std.proofs.Common.{◌≡◌, ℕ, zero, suc, ◌<◌, ◌≤◌, List, ◌++◌, Contains, get_or, Some, None, Ok, Err}
use Rattle.std.proofs.Common.{refl, sym, ap, ◌∙◌, subst, arith, ◌⊎◌, inl, inr}
use Rattle.std.proofs.lemmas.Option.{none-some, same_Some}
use Rattle.proof_fresh.specs.Beneath.slot_arena.specs.declared.refs.Ref.{Ref}
use Rattle.proof_fresh.specs.Beneath.slot_arena.specs.Heaps.{stored, refs_of_slot}
use Rattle.proof_fresh.specs.Beneath.slot_arena.specs.declared.nodes.Slot.{Slot}
use Rattle.proof_fresh.specs.Beneath.machine_model.specs.declared.actions.Action.{Action}
use Rattle.proof_fresh.specs.Beneath.machine_model.specs.declared.actions.Action.TheVariants as act
use Rattle.proof_fresh.specs.Beneath.machine_model.specs.declared.operations.Operation.{Operation}
use Rattle.proof_fresh.specs.Beneath.machine_model.specs.declared.steps.Bounds.{Bounds}
use Rattle.proof_fresh.specs.Beneath.machine_model.specs.declared.steps.Outcome.{Outcome}
use Rattle.proof_fresh.specs.Beneath.machine_model.specs.declared.steps.Step.{Step}
use Rattle.proof_fresh.specs.Beneath.machine_model.specs.declared.steps.Step.TheVariants as step
use Rattle.proof_fresh.specs.Beneath.machine_model.specs.Calls.{handle_of}
use Rattle.proof_fresh.specs.Beneath.machine_model.specs.Counting.{settled, refs_of_root}
use Rattle.proof_fresh.specs.Beneath.machine_model.specs.States.{State, operation_of, with_operation}
use Rattle.proof_fresh.specs.Beneath.machine_model.specs.Operations.{action_of}
use Rattle.proof_fresh.specs.Beneath.machine_model.specs.Acting.{acted, gone, operation_after, published}
use Rattle.proof_fresh.specs.Beneath.machine_model.specs.Machine.{Answer, AreBounds, run, next, state_after}
use Rattle.proof_fresh.specs.Beneath.machine_model.specs.Moves.{Moves, MovesIfTaken, Goes, Ends}
use Rattle.proof_fresh.specs.Beneath.machine_model.specs.Grown.{standing}
use Rattle.proof_fresh.specs.Beneath.machine_model.proofs.Grown.{standing_parts}
use Rattle.proof_fresh.specs.Beneath.machine_model.proofs.Moves.{moves}
use Rattle.proof_fresh.specs.Beneath.proof_memory.specs.Wants.{AllHold, action_wants}
use Rattle.proof_fresh.specs.Beneath.proof_memory.specs.Laws.{IsInUse}
use Rattle.proof_fresh.specs.Beneath.proof_memory.proofs.Claims.Uses.{safe_of}
use Rattle.proof_fresh.specs.Beneath.proof_memory.proofs.Safety.AtEachTime.{safe_along}
use Rattle.proof_fresh.specs.Beneath.proof_memory.proofs.Safety.Guards.{Safe}
use Rattle.proof_fresh.specs.Beneath.proof_memory.proofs.Safety.States.{IsSafe}
use Rattle.proof_fresh.specs.Beneath.proof_memory.proofs.Safety.Steps.{step_claims, safe_after}
use Rattle.proof_fresh.specs.Beneath.proof_generations.proofs.Roots.OfLists.{has_handles_along}
use Rattle.proof_fresh.specs.Beneath.proof_generations.proofs.Offers.Same.{same_offer}
use Rattle.proof_garbage.specs.Live.{at_hand, IsKnown, IsBelow, from_root, from_operation, from_slot}
use Rattle.proof_garbage.specs.Grace.{MayMakeKnown, IsNotPutBack}
use Rattle.proof_fresh.specs.Grace.{IsPrivateToNone, IsNotOffered}
use Rattle.proof_fresh.proofs.Below.{fresh_below}
use Rattle.proof_fresh.proofs.Publishing.{publishing}
use Rattle.proof_garbage.proofs.Public.{IsPublic, public_on}
use Rattle.proof_garbage.proofs.Claims.{Are}
use Rattle.proof_garbage.proofs.GivenUp.{fresh_private}
use Rattle.proof_garbage.proofs.Known.{known_used}
use Rattle.proof_garbage.proofs.Unknown.{hands}
use Rattle.proof_garbage.proofs.Restoring.{failed_over}
use Rattle.proof_garbage.proofs.Private.{Others, private_along}
use Rattle.proof_fresh.proofs.SwappedIn.{IsBroughtIn, published_refs}

-- who has begun since
abbrev Newer : State → ℕ → Type 0
Newer then id = then.begun ≤ id

-- fewer count
pub known_of_more : (state : State) (P Q : ℕ → Type 0) → ((id : ℕ) → P id → Q id) → {r : Ref} → IsKnown state P r → IsKnown state Q r
known_of_more state P Q f (from_root handle r c) = from_root handle r c
known_of_more state P Q f (from_operation actor operation r e p c) = from_operation actor operation r e (f operation.id p) c
known_of_more state P Q f (from_slot q r k c) = from_slot q r (known_of_more state P Q f k) c

-- ---- a step that swaps in

module _ (limits : Bounds) (ok : AreBounds limits) (steps : List Step) (k : ℕ) (operation : Operation) (found : operation_of (run limits steps) (suc k) ≡ Some operation)
    (i a f : Ref) (acts : action_of (run limits steps) operation ≡ act.Publish i a f) where
  abbrev state : State
  state = run limits steps

  I : IsSafe state
  I = safe_along limits ok steps

  abbrev put : State
  put = with_operation state (suc k) (Some (operation_after state operation))

  abbrev after : State
  after = settled state (gone state (suc k) operation)

  claims : AllHold (Safe state operation.epoch) state.heap (action_wants (act.Publish i a f))
  claims = subst (λ x. AllHold (Safe state operation.epoch) state.heap (action_wants x)) acts (step_claims state I k operation found)

  heap_is : after.heap ≡ published state.heap i a f
  heap_is = ap (λ x. (acted put (handle_of operation.call) x).heap) acts

  pub roots_are : (settled (run limits steps) (gone (run limits steps) (suc k) operation)).roots ≡ (run limits steps).roots
  roots_are = ap (λ x. (acted put (handle_of operation.call) x).roots) acts

  is_below : (x : Ref) → IsBelow state.heap f x → IsBelow state.heap a x ⊎ Contains operation.private x
  is_below x b = let (why, on) = publishing state operation i a f acts in fresh_below limits steps ok (suc k) operation why i a f x found on b

  -- the fresh node is known to no other
  pub fresh_unknown : (P : ℕ → Type 0) → (P operation.id → ⊥) → IsKnown (run limits steps) P f → ⊥
  fresh_unknown P old known =
      let (why, on) = publishing state operation i a f acts in
      private_along limits ok steps k operation found f (fresh_private limits steps ok (suc k) operation found i a f why on)
      (known_of_more state P (Others operation.id) (λ id p same. old (subst P same p)) known)

  -- what leads on through slots leads after it to what is brought in besides
  pub swap_refs : (K : Ref → Type 0) → ((q r : Ref) → K q → Contains (refs_of_slot (stored (run limits steps).heap q)) r → K r) → (K f → ⊥) → (q : Ref) (slot : Slot) →
      IsBroughtIn (run limits steps) K operation i a f q → standing (settled (run limits steps) (gone (run limits steps) (suc k) operation)).heap q ≡ Some slot →
      Are (IsBroughtIn (run limits steps) K operation i a f) (refs_of_slot (Some slot))
  swap_refs K under not_fresh q slot t e = published_refs state K under operation i a f claims not_fresh is_below q slot t (ap (λ h. standing h q) (sym heap_is) ∙ e)

  module _ (P : ℕ → Type 0) (old : P operation.id → ⊥) (o : Outcome) (m : Moves (run limits steps) (step.Go (suc k)) o (settled (run limits steps) (gone (run limits steps) (suc k) operation))) where
    by_hand : (actor : ℕ) (other : Operation) (r : Ref) → operation_of after actor ≡ Some other → P other.id → Contains (at_hand after other) r → IsKnown state P r
    by_hand actor other r e p c =
        hands state I P (suc k) k operation found found old
        (λ offer settled stands. same_offer state (has_handles_along limits steps).0 (suc k) operation offer found settled (handle_of operation.call) stands)
        (λ j main previous e. failed_over limits steps ok (suc k) operation j main previous found e
        (safe_of (subst (λ x. AllHold (Safe state operation.epoch) state.heap (action_wants x)) e (step_claims state I k operation found)).1.0).used)
        o m refl actor other e p r c

    brought : {r : Ref} → IsKnown after P r → IsBroughtIn state (IsKnown state P) operation i a f r
    brought (from_root handle r c) = inl (from_root handle r (subst (λ roots. Contains (refs_of_root (get_or roots handle None)) r) roots_are c))
    brought (from_operation actor other r is p c) = inl (by_hand actor other r is p c)
    brought (from_slot q r kq c) =
        let (slot, stands) = known_used after (safe_after state I (step.Go (suc k)) o after m) P kq in
        swap_refs (IsKnown state P) from_slot (fresh_unknown P old) q slot (brought kq) stands r (subst (λ s. Contains (refs_of_slot s) r) ((standing_parts after.heap q slot stands).0) c)

    pub publish_known : (r : Ref) → (Contains operation.private r → ⊥) → IsKnown (settled (run limits steps) (gone (run limits steps) (suc k) operation)) P r → IsKnown (run limits steps) P r
    publish_known r not_private known = elim (brought known) [ inl before ↦ before | inr own ↦ absurd (not_private own.3) ]

-- ---- along a run

module _ (limits : Bounds) (ok : AreBounds limits) (before : List Step) (r : Ref) (used : IsInUse (run limits before).heap r) (private_to_none : IsPrivateToNone (run limits before) r) where
  at_first : IsPublic r (run limits before)
  at_first = record { made = (safe_along limits ok before).births r used.0 used.1; apart = λ k operation found. private_to_none (suc k) operation found }

  pub only_by_offers : (since : List Step) → IsNotOffered limits before since r → IsNotPutBack limits before since r
  only_by_offers since h a b zero operation split is lt may unknown known = none-some operation is
  only_by_offers since h a b (suc k) operation split is lt may unknown known = by_action (action_of (run limits (before ++ a)) operation) refl may
    where
      not_both : operation.id < (run limits before).begun → (run limits before).begun ≤ operation.id → ⊥
      not_both x y = omega arith

      by_answer : (i c f : Ref) → action_of (run limits (before ++ a)) operation ≡ act.Publish i c f → (answer : Answer) → MovesIfTaken (run limits (before ++ a)) (step.Go (suc k)) answer →
          IsKnown (state_after (run limits (before ++ a)) answer) (Newer (run limits before)) r → ⊥
      by_answer i c f e (Err why) m known = unknown known
      by_answer i c f e (Ok done) m known = by_move done.0 done.1 m known
        where
          by_move : (o : Outcome) (after : State) → Moves (run limits (before ++ a)) (step.Go (suc k)) o after → IsKnown after (Newer (run limits before)) r → ⊥
          by_move o after (Goes {operation = found} d at_k x g) known =
              let same = same_Some _ _ (sym is ∙ at_k) in
              let old : Newer (run limits before) found.id → ⊥ = λ le. not_both lt (subst (λ (y : Operation). Newer (run limits before) y.id) (sym same) le) in
              unknown (publish_known limits ok (before ++ a) k found at_k i c f
              (subst (λ y. action_of (run limits (before ++ a)) y ≡ act.Publish i c f) same e) (Newer (run limits before)) old o (Goes d at_k x g) r
              ((public_on limits ok before a r at_first).apart k found at_k) known)
          by_move o after (Ends {operation = found} d at_k x) known =
              let same = same_Some _ _ (sym is ∙ at_k) in
              let wrong : act.Publish i c f ≡ act.End _ = sym e ∙ ap (action_of (run limits (before ++ a))) same ∙ x in
              let bad : ⊥ = cc in absurd bad

      by_action : (action : Action) → action_of (run limits (before ++ a)) operation ≡ action → MayMakeKnown action → ⊥
      by_action (act.Publish i c f) e may = by_answer i c f e (next (run limits (before ++ a)) (step.Go (suc k))) (moves (run limits (before ++ a)) (step.Go (suc k))) known
      by_action (act.Offer offer) e may = h a b (suc k) operation offer split is lt e unknown known
      by_action action e may = may
