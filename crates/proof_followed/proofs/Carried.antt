-- Where a step carries an offer out, what comes to be followed is what the operation made for it: the expected main node was followed before, in the old root.
use Rattle.std.proofs.Common.{◌≡◌, ℕ, List, Bool, true, false, Contains, Some, Ok, refl, sym, ap, ◌∙◌, subst, ◌⊎◌, inl, inr}
use Rattle.std.proofs.lemmas.Bool.{cases_eq}
use Rattle.proof_followed.specs.Beneath.slot_arena.specs.declared.refs.Ref.{Ref}
use Rattle.proof_followed.specs.Beneath.slot_arena.specs.declared.nodes.Prev.{Prev}
use Rattle.proof_followed.specs.Beneath.slot_arena.specs.declared.nodes.Prev.TheVariants as prev
use Rattle.proof_followed.specs.Beneath.slot_arena.specs.declared.nodes.Slot.{Slot}
use Rattle.proof_followed.specs.Beneath.slot_arena.specs.Heaps.{logical, main_at, prev_at, stored, refs_of_slot}
use Rattle.proof_followed.specs.Beneath.machine_model.specs.declared.actions.Action.{Action}
use Rattle.proof_followed.specs.Beneath.machine_model.specs.declared.actions.Action.TheVariants as act
use Rattle.proof_followed.specs.Beneath.machine_model.specs.declared.operations.Operation.{Operation}
use Rattle.proof_followed.specs.Beneath.machine_model.specs.declared.roots.Descriptor.{Descriptor}
use Rattle.proof_followed.specs.Beneath.machine_model.specs.declared.roots.Root.{Root}
use Rattle.proof_followed.specs.Beneath.machine_model.specs.declared.roots.RootWord.TheVariants.{Offer}
use Rattle.proof_followed.specs.Beneath.machine_model.specs.declared.steps.Bounds.{Bounds}
use Rattle.proof_followed.specs.Beneath.machine_model.specs.declared.steps.Outcome.{Outcome}
use Rattle.proof_followed.specs.Beneath.machine_model.specs.declared.steps.Step.{Step}
use Rattle.proof_followed.specs.Beneath.machine_model.specs.declared.steps.Step.TheVariants as step
use Rattle.proof_followed.specs.Beneath.machine_model.specs.Acting.{acted, gone, operation_after}
use Rattle.proof_followed.specs.Beneath.machine_model.specs.Calls.{handle_of}
use Rattle.proof_followed.specs.Beneath.machine_model.specs.Counting.{settled}
use Rattle.proof_followed.specs.Beneath.machine_model.specs.Grown.{standing}
use Rattle.proof_followed.specs.Beneath.machine_model.specs.Machine.{AreBounds, next, run}
use Rattle.proof_followed.specs.Beneath.machine_model.specs.Operations.{action_of}
use Rattle.proof_followed.specs.Beneath.machine_model.specs.States.{State, operation_of, root_at, root_of, word_at, word_of, with_operation}
use Rattle.proof_followed.specs.Beneath.machine_model.specs.Swapping.{is_carried_out}
use Rattle.proof_followed.specs.Beneath.machine_model.proofs.Grown.{standing_parts}
use Rattle.proof_followed.specs.Beneath.machine_model.proofs.HeapMoves.{completed_heap}
use Rattle.proof_followed.specs.Beneath.proof_memory.specs.Wants.{AnIndirection, Is, Holds, AllHold, prev_wants}
use Rattle.proof_followed.specs.Beneath.proof_memory.proofs.Claims.Nodes.{Heaped, main_read}
use Rattle.proof_followed.specs.Beneath.proof_memory.proofs.Claims.Uses.{safe_of}
use Rattle.proof_followed.specs.Beneath.proof_memory.proofs.Safety.AtEachTime.{safe_along}
use Rattle.proof_followed.specs.Beneath.proof_memory.proofs.Safety.States.{IsSafe}
use Rattle.proof_followed.specs.Beneath.proof_generations.proofs.Offers.Same.{HasOffers}
use Rattle.proof_followed.specs.Beneath.proof_generations.proofs.Offers.Standing.{StandsBy, completes_it}
use Rattle.proof_followed.specs.Beneath.proof_generations.proofs.Roots.Kept.{fresh_in, fresh_of}
use Rattle.proof_followed.specs.Beneath.proof_generations.proofs.Roots.OfLists.{has_handles_along}
use Rattle.proof_followed.specs.Beneath.proof_generations.proofs.Roots.Own.{its_fresh}
use Rattle.proof_garbage.proofs.Claims.{Are}
use Rattle.proof_garbage.proofs.Closed.{heaped_closed}
use Rattle.proof_order.proofs.Openings.Copy.{copied}
use Rattle.proof_followed.specs.Followed.{IsFollowed}
use Rattle.proof_followed.proofs.Apart.{IsApart}
use Rattle.proof_followed.proofs.Bringing.{names_main, main_bare}
use Rattle.proof_followed.proofs.InUse.{closed, root_followed}
use Rattle.proof_followed.proofs.LastStep.{expected_then}
use Rattle.proof_followed.proofs.Stays.{carried_word}

module _ (limits : Bounds) (ok : AreBounds limits) (steps : List Step) (P : ℕ → Type 0) (actor : ℕ) (operation : Operation) (is : operation_of (run limits steps) actor ≡ Some operation)
    (its : Root) (is_open : root_at (run limits steps) (handle_of operation.call) ≡ Some its) (o : Outcome)
    (taken : next (run limits steps) (step.Go actor) ≡ Ok (o, settled (run limits steps) (gone (run limits steps) actor operation))) where
  abbrev state : State
  state = run limits steps

  abbrev K : Ref → Type 0
  K = IsFollowed (run limits steps) P

  I : IsSafe state
  I = safe_along limits ok steps

  H : HasOffers state
  H = (has_handles_along limits steps).0

  -- what the operation made for the offer: a root, or what stands in one and isn't the expected main node
  abbrev pub IsNew : Descriptor → Ref → Type 0
  IsNew offer y =
      ((x : Bool) × (fresh_of x offer ≡ Some y))
      ⊎ ((x : Bool) × (q : Ref) × (fresh_of x offer ≡ Some q) × Contains (refs_of_slot (stored (run limits steps).heap q)) y × (y ≡ offer.expected → ⊥))

  -- the step carries this offer out
  abbrev pub Carries : Descriptor → Ref → Type 0
  Carries offer main = (action_of (run limits steps) operation ≡ act.Complete offer main) × (is_carried_out (word_at (run limits steps) (handle_of operation.call)) offer main ≡ true)

  -- what the step brings
  abbrev pub Brings : Ref → Type 0
  Brings y = (offer : Descriptor) × (main : Ref) × Carries offer main × IsNew offer y

  pub brings_roots : (offer : Descriptor) (main : Ref) → action_of (run limits steps) operation ≡ act.Complete offer main →
      is_carried_out (word_at (run limits steps) (handle_of operation.call)) offer main ≡ true → Brings offer.successor × ((q : Ref) → offer.second ≡ Some q → Brings q)
  brings_roots offer main a carried = ((offer, main, (a, carried), inl (true, refl)), λ q e. (offer, main, (a, carried), inl (false, e)))

  module _ (offer : Descriptor) (main : Ref) (carries : Carries offer main) where
    word : word_at state (handle_of operation.call) ≡ Offer offer
    word = carried_word state H actor operation is offer main carries.0 carries.1

    -- the operation that offered
    pub owner : StandsBy (run limits steps) (handle_of operation.call) offer
    owner = H.offers (handle_of operation.call) offer word

    has : (x : Bool) (q : Ref) → fresh_of x offer ≡ Some q → fresh_in x owner.owner.line ≡ Some q
    has x q e = its_fresh owner.owner.line offer x q owner.completes e

    pub expects : (copied owner.owner.line).1 ≡ offer.expected
    expects = let (c, on, same) = completes_it owner.owner.line offer owner.completes in ap (λ l. (copied l).1) on ∙ ap (λ (d : Descriptor). d.expected) same

    -- the expected main node is followed, in the old root
    root_claim : Holds K state.heap (Is offer.root AnIndirection)
    root_claim = subst (λ w. Holds K state.heap (Is (root_of w) AnIndirection)) (sym (ap word_of is_open) ∙ word) (root_followed state I P (handle_of operation.call) its is_open)

    heaped : Heaped K state.heap
    heaped = heaped_closed state I K (closed state I P)

    logical_by : (p : Prev) → prev_at state.heap (main_at state.heap offer.root) ≡ p → K (logical (main_at state.heap offer.root) p)
    logical_by prev.None e = safe_of (main_read K state.heap heaped root_claim)
    logical_by (prev.Pending p) e =
        safe_of (subst (λ v. AllHold K state.heap (prev_wants v)) e (heaped.before (main_at state.heap offer.root) (safe_of (main_read K state.heap heaped root_claim)))).0
    logical_by (prev.Failed p) e =
        safe_of (subst (λ v. AllHold K state.heap (prev_wants v)) e (heaped.before (main_at state.heap offer.root) (safe_of (main_read K state.heap heaped root_claim)))).0

    expected_followed : K offer.expected
    expected_followed =
        subst K (expected_then limits ok steps (step.Go actor) o _ taken actor operation offer main refl is carries.0 carries.1)
        (logical_by (prev_at state.heap (main_at state.heap offer.root)) refl)

    -- what stands in what is new is new, or was followed
    below_by : (q : Ref) → IsNew offer q → (y : Ref) → Contains (refs_of_slot (stored state.heap q)) y → K y ⊎ IsNew offer y
    below_by q (inl (x, e)) y c = elim (cases_eq y offer.expected) [
      | inl same ↦ inl (subst K (sym same) expected_followed)
      | inr other ↦ inr (inr (x, q, e, c, other))
    ]
    below_by q (inr (x, f, e, d, other)) y c = elim (main_bare limits ok steps owner.k owner.owner x f owner.runs owner.unmarked (has x f e)) [
      | inl expected ↦ absurd (other (names_main limits ok steps owner.k owner.owner x f owner.runs owner.unmarked (has x f e) q d ∙ expected ∙ expects))
      | inr bare ↦
          absurd (bare y (subst (λ z. Contains (refs_of_slot (stored state.heap z)) y) (names_main limits ok steps owner.k owner.owner x f owner.runs owner.unmarked (has x f e) q d) c))
    ]

    not_new : (r : Ref) → IsApart state r → IsNew offer r → ⊥
    not_new r apart (inl (x, e)) = ((apart owner.k owner.owner owner.runs owner.unmarked).0 x r (has x r e)).0 refl
    not_new r apart (inr (x, q, e, c, other)) =
        other
        (((apart owner.k owner.owner owner.runs owner.unmarked).0 x q (has x q e)).1 (sym (names_main limits ok steps owner.k owner.owner x q owner.runs owner.unmarked (has x q e) r c)) ∙ expects)

    -- the heap stays
    abbrev put : State
    put = with_operation (run limits steps) actor (Some (operation_after (run limits steps) operation))

    same_heap : (settled state (gone state actor operation)).heap ≡ state.heap
    same_heap = ap (λ (a : Action). (acted put (handle_of operation.call) a).heap) carries.0 ∙ completed_heap put (handle_of operation.call) offer main

  pub brings_below : (q : Ref) (slot : Slot) → Brings q → standing (settled (run limits steps) (gone (run limits steps) actor operation)).heap q ≡ Some slot →
      Are (λ y. IsFollowed (run limits steps) P y ⊎ Brings y) (refs_of_slot (Some slot))
  brings_below q slot (offer, main, carries, new) stands y c =
      let there : standing state.heap q ≡ Some slot = ap (λ h. standing h q) (sym (same_heap offer main carries)) ∙ stands in
      elim (below_by offer main carries q new y (subst (λ z. Contains (refs_of_slot z) y) (sym ((standing_parts state.heap q slot there).0)) c)) [
        | inl known ↦ inl known
        | inr new ↦ inr (offer, main, carries, new)
      ]

  pub brings_not : (r : Ref) → IsApart (run limits steps) r → Brings r → ⊥
  brings_not r apart (offer, main, carries, new) = not_new offer main carries r apart new
