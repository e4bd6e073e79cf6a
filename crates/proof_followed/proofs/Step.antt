-- What is followed after a step was followed before it, or wasn't in use, or an offer that was carried out brings it: where the step is of an operation that counts, or of none.
use Rattle.std.proofs.Common.{◌≡◌, ℕ, true, Contains, Some, None, get_or, refl, sym, ap, ◌∙◌, subst, ◌⊎◌, inl, inr, map}
use Rattle.std.proofs.lemmas.Option.{none-some}
use Rattle.proof_followed.specs.Beneath.slot_arena.specs.declared.refs.Ref.{Ref}
use Rattle.proof_followed.specs.Beneath.slot_arena.specs.declared.nodes.Slot.{Slot}
use Rattle.proof_followed.specs.Beneath.slot_arena.specs.Heaps.{Heap, refs_of_slot}
use Rattle.proof_followed.specs.Beneath.epochs.specs.Sweeping.{ripe}
use Rattle.proof_followed.specs.Beneath.machine_model.specs.declared.actions.Action.TheVariants as act
use Rattle.proof_followed.specs.Beneath.machine_model.specs.declared.operations.Operation.{Operation}
use Rattle.proof_followed.specs.Beneath.machine_model.specs.declared.roots.Descriptor.{Descriptor}
use Rattle.proof_followed.specs.Beneath.machine_model.specs.declared.roots.Root.{Root}
use Rattle.proof_followed.specs.Beneath.machine_model.specs.declared.roots.RootWord.TheVariants.{Offer}
use Rattle.proof_followed.specs.Beneath.machine_model.specs.declared.steps.Outcome.{Outcome}
use Rattle.proof_followed.specs.Beneath.machine_model.specs.declared.steps.Step.{Step}
use Rattle.proof_followed.specs.Beneath.machine_model.specs.declared.steps.Step.TheVariants as step
use Rattle.proof_followed.specs.Beneath.machine_model.specs.Acting.{gone}
use Rattle.proof_followed.specs.Beneath.machine_model.specs.Calls.{handle_of}
use Rattle.proof_followed.specs.Beneath.machine_model.specs.Counting.{settled}
use Rattle.proof_followed.specs.Beneath.machine_model.specs.Grown.{standing}
use Rattle.proof_followed.specs.Beneath.machine_model.specs.Machine.{pin_of}
use Rattle.proof_followed.specs.Beneath.machine_model.specs.Moves.{Moves, GoesOn, begun_operation, Begins, Goes, Ends, Sweeps, GivesUp}
use Rattle.proof_followed.specs.Beneath.machine_model.specs.Operations.{action_of}
use Rattle.proof_followed.specs.Beneath.machine_model.specs.States.{State, operation_of, root_at, root_of, word_at}
use Rattle.proof_followed.specs.Beneath.machine_model.specs.Swapping.{is_carried_out, stands_in}
use Rattle.proof_followed.specs.Beneath.machine_model.proofs.Grown.{standing_parts}
use Rattle.proof_followed.specs.Beneath.machine_model.proofs.HeapMoves.{begin_heap}
use Rattle.proof_followed.specs.Beneath.machine_model.proofs.InUse.{InUse}
use Rattle.proof_followed.specs.Beneath.machine_model.proofs.Slots.{ripe_in_use}
use Rattle.proof_followed.specs.Beneath.proof_memory.proofs.Heap.Moves.{sweep_goes}
use Rattle.proof_followed.specs.Beneath.proof_memory.proofs.Heap.RootWords.{begin_words}
use Rattle.proof_followed.specs.Beneath.proof_memory.proofs.Safety.States.{IsSafe, stands_in_use}
use Rattle.proof_followed.specs.Beneath.proof_memory.proofs.Safety.Steps.{safe_after}
use Rattle.proof_followed.specs.Beneath.proof_generations.specs.Laws.Roots.{settles}
use Rattle.proof_garbage.proofs.Claims.{Are}
use Rattle.proof_garbage.proofs.Closed.{slot_closed}
use Rattle.proof_garbage.proofs.Step.{old_slot}
use Rattle.proof_followed.specs.Followed.{IsFollowed, from_root, from_operation, from_slot, followed_by}
use Rattle.proof_followed.proofs.InUse.{followed_used, closed}
use Rattle.proof_followed.proofs.RootWords.{roots_after}
use Rattle.proof_followed.proofs.Hands.{WasFollowed, handle_open, its_slots, actors_hands}

-- what is followed is so where roots are, what operations follow, and what stands in slots of what is so
module _ (after : State) (J : IsSafe after) (P : ℕ → Type 0) (W : Ref → Type 0) (roots : (handle : ℕ) (root : Root) → root_at after handle ≡ Some root → W (root_of root.word))
    (hands : (actor : ℕ) (operation : Operation) → operation_of after actor ≡ Some operation → P operation.id → Are W (followed_by after operation))
    (slots : (q : Ref) (slot : Slot) → W q → standing after.heap q ≡ Some slot → Are W (refs_of_slot (Some slot))) where
  pub followed_so : {r : Ref} → IsFollowed after P r → W r
  followed_so (from_root handle root r e is) = subst W is (roots handle root e)
  followed_so (from_operation actor operation r e p c) = hands actor operation e p r c
  followed_so (from_slot q r k c) =
      let (slot, stands) = followed_used after J P k in slots q slot (followed_so k) stands r (subst (λ o. Contains (refs_of_slot o) r) ((standing_parts after.heap q slot stands).0) c)

module _ (state : State) (I : IsSafe state) (P : ℕ → Type 0) where
  abbrev Was : Ref → Type 0
  Was = WasFollowed state I P

  root_was : (handle : ℕ) (root : Root) → root_at state handle ≡ Some root → Was (root_of root.word)
  root_was handle root e = inl (from_root handle root (root_of root.word) e refl)

  was_slots : (q : Ref) (slot : Slot) → Was q → standing state.heap q ≡ Some slot → Are Was (refs_of_slot (Some slot))
  was_slots q slot was e r c =
      inl (old_slot (IsFollowed state P) state.heap (standing state.heap) (standing state.heap) 0 0 (slot_closed state I (IsFollowed state P) (closed state I P)) q slot was e r c)

  stood : (heap : Heap) → (q : Ref) → (standing heap q ≡ standing state.heap q) ⊎ (standing heap q ≡ None) → (slot : Slot) → standing heap q ≡ Some slot → standing state.heap q ≡ Some slot
  stood heap q (inl same) slot e = sym same ∙ e
  stood heap q (inr none) slot e = absurd (none-some slot (sym none ∙ e))

  -- a step in which no operation goes on
  abbrev pub IsRest : {s : Step} {o : Outcome} {after : State} → Moves state s o after → Type 0
  IsRest (Goes d is a g) = ⊥
  IsRest m = Unit {0}

  pub rest_followed : (s : Step) (o : Outcome) (after : State) (m : Moves state s o after) → IsRest m → {r : Ref} → IsFollowed after P r → Was r
  rest_followed s o after (Begins {actor} {call} {number} d) rest =
      followed_so after (safe_after state I s o after (Begins d)) P Was (begin_words (λ word. Was (root_of word)) state call root_was) (actors_hands state I P s o after (Begins d))
      (λ q slot w e. was_slots q slot w (sym (ap (λ h. standing h q) (begin_heap state actor call (begun_operation state call number))) ∙ e))
  rest_followed s o after (Ends d is a) rest = followed_so after (safe_after state I s o after (Ends d is a)) P Was root_was (actors_hands state I P s o after (Ends d is a)) was_slots
  rest_followed s o after (GivesUp d is a) rest = followed_so after (safe_after state I s o after (GivesUp d is a)) P Was root_was (actors_hands state I P s o after (GivesUp d is a)) was_slots
  rest_followed s o after (Sweeps spent) rest =
      followed_so after (safe_after state I s o after (Sweeps spent)) P Was root_was (actors_hands state I P s o after (Sweeps spent))
      (λ q slot w e. was_slots q slot w (stood after.heap q (sweep_goes state I (map pin_of state.actors) (ripe state.epoch state.limbo)
      (λ q due. stands_in_use state.heap q (ripe_in_use (InUse state.heap) state.epoch state.limbo (I.sound.limbo) q due)) q) slot e))
  rest_followed s o after (Goes d is a g) rest = absurd rest

  -- ---- a step of an operation that counts

  module _ (actor k : ℕ) (operation : Operation) (running : operation_of state actor ≡ Some operation) (found : get_or state.actors k None ≡ Some operation) (p : P operation.id)
      (g : GoesOn (action_of state operation)) (B : Ref → Type 0)
      (offers : (offer : Descriptor) → settles (action_of state operation) ≡ Some offer → stands_in (word_at state (handle_of operation.call)) offer ≡ true →
      word_at state (handle_of operation.call) ≡ Offer offer)
      (brings : (offer : Descriptor) (main : Ref) → action_of state operation ≡ act.Complete offer main → is_carried_out (word_at state (handle_of operation.call)) offer main ≡ true →
      (Was offer.successor ⊎ B offer.successor) × ((q : Ref) → offer.second ≡ Some q → Was q ⊎ B q))
      (below : (q : Ref) (slot : Slot) → B q → standing (settled state (gone state actor operation)).heap q ≡ Some slot → Are (λ x. Was x ⊎ B x) (refs_of_slot (Some slot))) where
    abbrev W : Ref → Type 0
    W x = Was x ⊎ B x

    abbrev next : State
    next = settled state (gone state actor operation)

    slots_so : (q : Ref) (slot : Slot) → W q → standing next.heap q ≡ Some slot → Are W (refs_of_slot (Some slot))
    slots_so q slot (inl was) e r c = inl (inl (its_slots state I P actor k operation running found p q slot was e r c))
    slots_so q slot (inr b) e r c = below q slot b e r c

    pub counting_followed : (o : Outcome) (m : Moves state (step.Go actor) o next) {r : Ref} → IsFollowed next P r → W r
    counting_followed o m =
        let (its, is_open) = handle_open state I P actor k operation running found p g in
        followed_so next (safe_after state I (step.Go actor) o next m) P W
        (roots_after state W (λ handle root e. inl (root_was handle root e)) actor operation its is_open offers brings (action_of state operation) refl)
        (λ a other e q r c. inl (actors_hands state I P (step.Go actor) o next m a other e q r c)) slots_so
