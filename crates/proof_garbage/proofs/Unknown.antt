-- A step of an operation that doesn't count brings nothing to what is known, unless it swaps a fresh node in or offers.
use Rattle.std.proofs.Common.{◌≡◌, ℕ, zero, suc, ◌==◌, Bool, true, false, [], ◌∷◌, Contains, get_or, Option, Some, None, if◌then◌else◌, refl, sym, ap, ◌∙◌, subst}
use Rattle.std.proofs.lemmas.Option.{none-some, same_Some}
use Rattle.proof_garbage.specs.Beneath.slot_arena.specs.declared.refs.Ref.{Ref}
use Rattle.proof_garbage.specs.Beneath.slot_arena.specs.declared.nodes.Prev.TheVariants as prev
use Rattle.proof_garbage.specs.Beneath.slot_arena.specs.Heaps.{prev_at, refs_of_slot, refs_of_option}
use Rattle.proof_garbage.specs.Beneath.machine_model.specs.declared.actions.Action.{Action}
use Rattle.proof_garbage.specs.Beneath.machine_model.specs.declared.actions.Action.TheVariants as act
use Rattle.proof_garbage.specs.Beneath.machine_model.specs.declared.operations.Operation.{Operation}
use Rattle.proof_garbage.specs.Beneath.machine_model.specs.declared.roots.Root.{Root}
use Rattle.proof_garbage.specs.Beneath.machine_model.specs.declared.roots.RootWord.{RootWord}
use Rattle.proof_garbage.specs.Beneath.machine_model.specs.declared.roots.RootWord.TheVariants.{Plain, Offer}
use Rattle.proof_garbage.specs.Beneath.machine_model.specs.declared.roots.Descriptor.{Descriptor}
use Rattle.proof_garbage.specs.Beneath.machine_model.specs.declared.steps.Bounds.{Bounds}
use Rattle.proof_garbage.specs.Beneath.machine_model.specs.declared.steps.Outcome.{Outcome}
use Rattle.proof_garbage.specs.Beneath.machine_model.specs.declared.steps.Step.TheVariants as step
use Rattle.proof_garbage.specs.Beneath.machine_model.specs.Calls.{handle_of}
use Rattle.proof_garbage.specs.Beneath.machine_model.specs.States.{State, root_at, word_of, word_at, operation_of, with_operation, with_word}
use Rattle.proof_garbage.specs.Beneath.machine_model.specs.Counting.{settled, refs_of_root, refs_of_word}
use Rattle.proof_garbage.specs.Beneath.machine_model.specs.Swapping.{stands_in}
use Rattle.proof_garbage.specs.Beneath.machine_model.specs.Operations.{action_of}
use Rattle.proof_garbage.specs.Beneath.machine_model.specs.Acting.{acted, aborted, completed, gone, operation_after, if_changed, carried_out}
use Rattle.proof_garbage.specs.Beneath.machine_model.specs.Moves.{Moves}
use Rattle.proof_garbage.specs.Beneath.machine_model.proofs.Actors.{IsOf, is_of, mark_only, marks_in, marks_by, of_others, of_itself}
use Rattle.proof_garbage.specs.Beneath.machine_model.proofs.Frames.{limits_kept}
use Rattle.proof_garbage.specs.Beneath.proof_memory.proofs.Heap.RootWords.{AllWords, put_words}
use Rattle.proof_garbage.specs.Beneath.proof_memory.proofs.Safety.States.{IsSafe}
use Rattle.proof_garbage.specs.Beneath.proof_memory.proofs.Safety.Steps.{step_claims, safe_after}
use Rattle.proof_garbage.specs.Beneath.proof_generations.specs.Laws.Roots.{settles}
use Rattle.proof_garbage.specs.Grace.{MayMakeKnown}
use Rattle.proof_garbage.specs.Live.{at_hand, IsKnown, from_root, from_operation, from_slot}
use Rattle.proof_garbage.proofs.Claims.{Are, none_in, first_of, last_of}
use Rattle.proof_garbage.proofs.Known.{known_used, closed}
use Rattle.proof_garbage.proofs.Kept.{IsSwapIn, slots_kept}
use Rattle.proof_garbage.specs.Beneath.machine_model.proofs.Grown.{standing_parts}

swap_may : (action : Action) → IsSwapIn action → MayMakeKnown action
swap_may (act.Publish i replaced fresh) p = tt
swap_may action p = absurd p

module _ (state : State) (I : IsSafe state) (P : ℕ → Type 0) (actor k : ℕ) (operation : Operation) (is : operation_of state actor ≡ Some operation)
    (found : get_or state.actors k None ≡ Some operation) (old : P operation.id → ⊥)
    (offers : (offer : Descriptor) → settles (action_of state operation) ≡ Some offer → stands_in (word_at state (handle_of operation.call)) offer ≡ true →
    word_at state (handle_of operation.call) ≡ Offer offer)
    (failed : (i main previous : Ref) → action_of state operation ≡ act.Restore i main previous → prev_at state.heap main ≡ prev.Failed previous) where
  abbrev K : Ref → Type 0
  K = IsKnown state P

  abbrev after : State
  after = settled state (gone state actor operation)

  abbrev put : State
  put = with_operation state actor (Some (operation_after state operation))

  abbrev handle : ℕ
  handle = handle_of operation.call

  -- ---- root words

  abbrev KnownWord : RootWord → Type 0
  KnownWord word = Are K (refs_of_word word)

  word_by : (o : Option Root) → root_at state handle ≡ o → (offer : Descriptor) → word_of o ≡ Offer offer → KnownWord (Offer offer)
  word_by None e offer w = let wrong : ⊥ = cc in absurd wrong
  word_by (Some root) e offer w =
      subst KnownWord w (λ r c. from_root handle r (subst (λ o. Contains (refs_of_root o) r) (sym e) c))

  words_before : AllWords KnownWord put
  words_before at root e r c = from_root at r (subst (λ o. Contains (refs_of_root o) r) (sym e) c)

  second_known : (offer : Descriptor) (second : Option Ref) → Are K (refs_of_option second) → (r : Ref) → second ≡ Some r → KnownWord (Plain r)
  second_known offer None h r e = absurd (none-some r e)
  second_known offer (Some x) h r e = subst (λ y. KnownWord (Plain y)) (same_Some x r e) h

  abort_words : (offer : Descriptor) → action_of state operation ≡ act.Abort offer → (b : Bool) → stands_in (word_at state handle) offer ≡ b → AllWords KnownWord (aborted put handle offer)
  abort_words offer a true e =
      put_words KnownWord put handle (act.Abort offer) words_before
      (first_of K (offer.root ∷ []) (offer.expected ∷ offer.successor ∷ refs_of_option offer.second) (word_by (root_at state handle) refl offer (offers offer (ap settles a) e)))
  abort_words offer a false e = subst (λ b. AllWords KnownWord (if_changed b (with_word put handle (Plain offer.root)) put)) (sym e) words_before

  complete_words : (offer : Descriptor) (main : Ref) → action_of state operation ≡ act.Complete offer main → (b : Bool) → stands_in (word_at state handle) offer ≡ b →
      AllWords KnownWord (completed put handle offer main)
  complete_words offer main a true e =
      let all = word_by (root_at state handle) refl offer (offers offer (ap settles a) e) in
      let rest = last_of K (offer.root ∷ offer.expected ∷ []) (offer.successor ∷ refs_of_option offer.second) all in
      put_words KnownWord put handle (act.Complete offer main) words_before (
        first_of K (offer.root ∷ []) (offer.expected ∷ offer.successor ∷ refs_of_option offer.second) all,
        first_of K (offer.successor ∷ []) (refs_of_option offer.second) rest,
        second_known offer offer.second (last_of K (offer.successor ∷ []) (refs_of_option offer.second) rest),
      )
  complete_words offer main a false e =
      subst (λ b. AllWords KnownWord (if_changed b (if main == offer.expected then carried_out put handle offer else with_word put handle (Plain offer.root)) put)) (sym e) words_before

  words_by : (action : Action) → action_of state operation ≡ action → (MayMakeKnown action → ⊥) → AllWords KnownWord (acted put handle action)
  words_by (act.Abort offer) a harmless = abort_words offer a _ refl
  words_by (act.Offer offer) a harmless = absurd (harmless tt)
  words_by (act.Complete offer main) a harmless = complete_words offer main a _ refl
  words_by (act.MakeRoot main) a harmless = put_words KnownWord put handle (act.MakeRoot main) words_before tt
  words_by action a harmless = words_before

  -- ---- what others have at hand

  module _ (o : Outcome) (m : Moves state (step.Go actor) o after) (own_place : actor ≡ suc k) where
    hands_by : (j : ℕ) → Dec (IsOf (suc j) (step.Go actor)) → (other : Operation) → get_or after.actors j None ≡ Some other → P other.id → Are K (at_hand after other)
    hands_by j (no apart) other at_j p =
        let (was, at_was, same) = of_others state (step.Go actor) o after m j apart other at_j in
        let only = same ∙ mark_only (marks_in state (step.Go actor)) was in
        subst (λ (x : Operation). Are K (at_hand after x)) (sym only)
        (subst (λ (l : Bounds). Are K (at_hand (record state { limits = l }) was)) (sym (limits_kept state (step.Go actor) o after m))
        (λ r c. from_operation (suc j) was r at_was (subst (λ (x : Operation). P x.id) only p) c))
    hands_by j (yes own) other at_j p =
        absurd (old (subst (λ (x : Operation). P x.id) (of_itself state actor operation j own other at_j ∙ mark_only (marks_by state (Some operation)) (operation_after state operation)) p))

    pub hands : (actor' : ℕ) (other : Operation) → operation_of after actor' ≡ Some other → P other.id → Are K (at_hand after other)
    hands zero other e p = absurd (none-some other e)
    hands (suc j) other e p = hands_by j (is_of (suc j) (step.Go actor)) other e p

    -- ---- all of it

    module _ (harmless : MayMakeKnown (action_of state operation) → ⊥) where
      by_root : (at : ℕ) (r : Ref) (found : Option Root) → root_at after at ≡ found → Contains (refs_of_root found) r → K r
      by_root at r None e c = none_in r c
      by_root at r (Some root) e c = words_by (action_of state operation) refl harmless at root e r c

      pub old_known : {r : Ref} → IsKnown after P r → IsKnown state P r
      old_known (from_root at r c) = by_root at r (root_at after at) refl c
      old_known (from_operation actor' other r e p c) = hands actor' other e p r c
      old_known (from_slot q r kq c) =
          let (slot, stands) = known_used after (safe_after state I (step.Go actor) o after m) P kq in
          slots_kept state I K (closed state I P) actor operation failed (action_of state operation) refl (λ p. harmless (swap_may (action_of state operation) p))
          (step_claims state I k operation found) q slot (old_known kq) stands r
          (subst (λ s. Contains (refs_of_slot s) r) ((standing_parts after.heap q slot stands).0) c)
