-- Who offers makes known only what it follows.
use Rattle.std.proofs.Common.{◌≡◌, ◌⊎◌, inl, inr, ℕ, suc, List, Bool, true, false, Contains, Option, Some, None, refl, sym, ap, ◌∙◌, subst}
use Rattle.proof_reuse.specs.Beneath.slot_arena.specs.declared.refs.Ref.{Ref}
use Rattle.proof_reuse.specs.Beneath.slot_arena.specs.Heaps.{stored, refs_of_slot}
use Rattle.proof_reuse.specs.Beneath.machine_model.specs.declared.actions.Action.TheVariants as act
use Rattle.proof_reuse.specs.Beneath.machine_model.specs.declared.operations.Operation.{Operation}
use Rattle.proof_reuse.specs.Beneath.machine_model.specs.declared.roots.Descriptor.{Descriptor}
use Rattle.proof_reuse.specs.Beneath.machine_model.specs.declared.roots.Root.{Root}
use Rattle.proof_reuse.specs.Beneath.machine_model.specs.declared.roots.RootWord.{RootWord}
use Rattle.proof_reuse.specs.Beneath.machine_model.specs.declared.roots.RootWord.TheVariants.{Plain, Offer}
use Rattle.proof_reuse.specs.Beneath.machine_model.specs.declared.steps.Bounds.{Bounds}
use Rattle.proof_reuse.specs.Beneath.machine_model.specs.declared.steps.Outcome.{Outcome}
use Rattle.proof_reuse.specs.Beneath.machine_model.specs.declared.steps.Step.{Step}
use Rattle.proof_reuse.specs.Beneath.machine_model.specs.declared.steps.Step.TheVariants as step
use Rattle.proof_reuse.specs.Beneath.machine_model.specs.Acting.{acted, gone, if_changed, operation_after}
use Rattle.proof_reuse.specs.Beneath.machine_model.specs.Calls.{handle_of}
use Rattle.proof_reuse.specs.Beneath.machine_model.specs.Contents as contents
use Rattle.proof_reuse.specs.Beneath.machine_model.specs.Contents.{IsReached}
use Rattle.proof_reuse.specs.Beneath.machine_model.specs.Counting.{settled, refs_of_root, refs_of_word}
use Rattle.proof_reuse.specs.Beneath.machine_model.specs.Machine.{AreBounds, run}
use Rattle.proof_reuse.specs.Beneath.machine_model.specs.Moves.{Moves}
use Rattle.proof_reuse.specs.Beneath.machine_model.specs.Operations.{action_of}
use Rattle.proof_reuse.specs.Beneath.machine_model.specs.States.{State, operation_of, root_at, root_of, word_of, with_operation, with_word}
use Rattle.proof_reuse.specs.Beneath.machine_model.specs.Swapping.{is_plain}
use Rattle.proof_reuse.specs.Beneath.proof_memory.specs.Wants.{AllHold, action_wants, offer_wants}
use Rattle.proof_reuse.specs.Beneath.proof_memory.proofs.Claims.Uses.{safe_of}
use Rattle.proof_reuse.specs.Beneath.proof_memory.proofs.Heap.RootWords.{AllWords, put_words}
use Rattle.proof_reuse.specs.Beneath.proof_memory.proofs.Safety.AtEachTime.{safe_along}
use Rattle.proof_reuse.specs.Beneath.proof_memory.proofs.Safety.Guards.{Safe}
use Rattle.proof_reuse.specs.Beneath.proof_memory.proofs.Safety.Held.{word_refs}
use Rattle.proof_reuse.specs.Beneath.proof_memory.proofs.Safety.States.{IsSafe}
use Rattle.proof_reuse.specs.Beneath.proof_memory.proofs.Safety.Steps.{step_claims}
use Rattle.proof_reuse.specs.Beneath.proof_generations.proofs.Offers.Same.{HasOffers, same_offer}
use Rattle.proof_reuse.specs.Beneath.proof_generations.proofs.Offers.Standing.{completes_it}
use Rattle.proof_reuse.specs.Beneath.proof_generations.proofs.Roots.OfLists.{has_handles_along}
use Rattle.proof_reuse.specs.Beneath.proof_garbage.specs.Live as live
use Rattle.proof_reuse.specs.Beneath.proof_garbage.specs.Live.{IsKnown, at_hand}
use Rattle.proof_reuse.specs.Beneath.proof_garbage.proofs.Claims.{Are, from_all, none_in, one_in}
use Rattle.proof_reuse.specs.Beneath.proof_garbage.proofs.Restoring.{failed_over}
use Rattle.proof_reuse.specs.Beneath.proof_garbage.proofs.Unknown.{hands}
use Rattle.proof_followed.specs.Followed.{IsFollowedByAny, from_root, from_slot, followed_action_wants, followed_wants}
use Rattle.proof_followed.proofs.InUse.{action_followed, line_followed}
use Rattle.proof_followed.proofs.Stays.{own_wants}

-- ---- what roots lead to, with all that offers name which stand there, somebody follows

module _ (state : State) (I : IsSafe state) (H : HasOffers state) where
  abbrev F : Ref → Type 0
  F = IsFollowedByAny state

  word_followed : (handle : ℕ) (root : Root) → root_at state handle ≡ Some root → (word : RootWord) → root.word ≡ word → Are F (refs_of_word word)
  word_followed handle root e (Plain x) is r c = from_root handle root r e (ap root_of is ∙ one_in (λ y. x ≡ y) x refl r c)
  word_followed handle root e (Offer offer) is r c =
      let b = H.offers handle offer (ap word_of e ∙ is) in
      let (d, on, its) = completes_it b.owner.line offer b.completes in
      let wants = own_wants F state.heap state.limits.hash b.owner.call b.owner.access d.offer d.line
      (subst (λ l. AllHold F state.heap (followed_wants state.limits.hash b.owner.call b.owner.access l)) on (line_followed state I (λ id. Unit {0}) (suc b.k) b.owner b.runs tt)) in
      from_all F (refs_of_word (Offer offer)) (word_refs F state.heap (Offer offer) (subst (λ (x : Descriptor). AllHold F state.heap (offer_wants x)) its wants)) r c

  by_word : (handle : ℕ) (r : Ref) (found : Option Root) → root_at state handle ≡ found → Contains (refs_of_root found) r → F r
  by_word handle r None e c = none_in r c
  by_word handle r (Some root) e c = word_followed handle root e root.word refl r c

  pub reached_followed : {r : Ref} → IsReached state r → IsFollowedByAny state r
  reached_followed (contents.from_root handle r c) = by_word handle r (root_at state handle) refl c
  reached_followed (contents.from_slot q r k c) = from_slot q r (reached_followed k) c

-- ---- a step that offers

module _ (limits : Bounds) (ok : AreBounds limits) (steps : List Step) (k : ℕ) (operation : Operation) (found : operation_of (run limits steps) (suc k) ≡ Some operation)
    (offer : Descriptor) (acts : action_of (run limits steps) operation ≡ act.Offer offer) (P : ℕ → Type 0) (old : P operation.id → ⊥)
    (o : Outcome) (m : Moves (run limits steps) (step.Go (suc k)) o (settled (run limits steps) (gone (run limits steps) (suc k) operation))) where
  abbrev state : State
  state = run limits steps

  I : IsSafe state
  I = safe_along limits ok steps

  abbrev handle : ℕ
  handle = handle_of operation.call

  abbrev put : State
  put = with_operation state (suc k) (Some (operation_after state operation))

  abbrev after : State
  after = settled state (gone state (suc k) operation)

  -- known before, or followed
  abbrev W : Ref → Type 0
  W r = IsKnown state P r ⊎ IsFollowedByAny state r

  abbrev IsSo : RootWord → Type 0
  IsSo word = Are W (refs_of_word word)

  before : AllWords IsSo put
  before at root e r c = inl (live.from_root at r (subst (λ x. Contains (refs_of_root x) r) (sym e) c))

  its_refs : IsSo (Offer offer)
  its_refs r c =
      inr (from_all (IsFollowedByAny state) (refs_of_word (Offer offer))
      (word_refs (IsFollowedByAny state) state.heap (Offer offer)
      (subst (λ x. AllHold (IsFollowedByAny state) state.heap (followed_action_wants x)) acts (action_followed state I (λ id. Unit {0}) (suc k) operation found tt))) r c)

  words : AllWords IsSo after
  words = subst (λ x. AllWords IsSo (acted put handle x)) (sym acts) (put_words IsSo put handle (act.Offer offer) before its_refs)

  by_root : (at : ℕ) (r : Ref) (x : Option Root) → root_at after at ≡ x → Contains (refs_of_root x) r → W r
  by_root at r None e c = none_in r c
  by_root at r (Some root) e c = words at root e r c

  by_hand : (actor : ℕ) (other : Operation) (r : Ref) → operation_of after actor ≡ Some other → P other.id → Contains (at_hand after other) r → W r
  by_hand actor other r e p c =
      inl (hands state I P (suc k) k operation found found old
      (λ d settled stands. same_offer state (has_handles_along limits steps).0 (suc k) operation d found settled handle stands)
      (λ j main previous q. failed_over limits steps ok (suc k) operation j main previous found q
      (safe_of (subst (λ x. AllHold (Safe state operation.epoch) state.heap (action_wants x)) q (step_claims state I k operation found)).1.0).used)
      o m refl actor other e p r c)

  heap_by : (b : Bool) → (if_changed b (with_word put handle (Offer offer)) put).heap ≡ state.heap
  heap_by true = refl
  heap_by false = refl

  heap_is : after.heap ≡ state.heap
  heap_is = ap (λ x. (acted put handle x).heap) acts ∙ heap_by (is_plain _ offer.root)

  pub offer_known : {r : Ref} → IsKnown (settled (run limits steps) (gone (run limits steps) (suc k) operation)) P r → IsKnown (run limits steps) P r ⊎ IsFollowedByAny (run limits steps) r
  offer_known (live.from_root at r c) = by_root at r (root_at after at) refl c
  offer_known (live.from_operation actor other r e p c) = by_hand actor other r e p c
  offer_known (live.from_slot q r kq c) = elim (offer_known kq) [
    | inl known ↦ inl (live.from_slot q r known (subst (λ h. Contains (refs_of_slot (stored h q)) r) heap_is c))
    | inr followed ↦ inr (from_slot q r followed (subst (λ h. Contains (refs_of_slot (stored h q)) r) heap_is c))
  ]
