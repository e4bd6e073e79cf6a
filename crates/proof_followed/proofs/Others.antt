-- A step of an operation that doesn't count brings nothing to what is followed, unless it swaps a fresh node in or carries an offer out.
use Rattle.std.proofs.Common.{◌≡◌, ℕ, zero, suc, true, Some, None, get_or, refl, sym, ◌∙◌, subst, ◌⊎◌, inl, inr}
use Rattle.std.proofs.lemmas.Option.{none-some}
use Rattle.proof_followed.specs.Beneath.slot_arena.specs.declared.refs.Ref.{Ref}
use Rattle.proof_followed.specs.Beneath.slot_arena.specs.declared.nodes.Prev.TheVariants as prev
use Rattle.proof_followed.specs.Beneath.slot_arena.specs.declared.nodes.Slot.{Slot}
use Rattle.proof_followed.specs.Beneath.slot_arena.specs.Heaps.{prev_at, refs_of_slot}
use Rattle.proof_followed.specs.Beneath.machine_model.specs.declared.actions.Action.TheVariants as act
use Rattle.proof_followed.specs.Beneath.machine_model.specs.declared.operations.Operation.{Operation}
use Rattle.proof_followed.specs.Beneath.machine_model.specs.declared.roots.Descriptor.{Descriptor}
use Rattle.proof_followed.specs.Beneath.machine_model.specs.declared.roots.Root.{Root}
use Rattle.proof_followed.specs.Beneath.machine_model.specs.declared.roots.RootWord.TheVariants.{Offer}
use Rattle.proof_followed.specs.Beneath.machine_model.specs.declared.steps.Bounds.{Bounds}
use Rattle.proof_followed.specs.Beneath.machine_model.specs.declared.steps.Outcome.{Outcome}
use Rattle.proof_followed.specs.Beneath.machine_model.specs.declared.steps.Step.TheVariants as step
use Rattle.proof_followed.specs.Beneath.machine_model.specs.Acting.{gone, operation_after}
use Rattle.proof_followed.specs.Beneath.machine_model.specs.Calls.{handle_of}
use Rattle.proof_followed.specs.Beneath.machine_model.specs.Counting.{settled}
use Rattle.proof_followed.specs.Beneath.machine_model.specs.Grown.{standing}
use Rattle.proof_followed.specs.Beneath.machine_model.specs.Moves.{Moves}
use Rattle.proof_followed.specs.Beneath.machine_model.specs.Operations.{action_of}
use Rattle.proof_followed.specs.Beneath.machine_model.specs.States.{State, operation_of, root_at, root_of, word_at}
use Rattle.proof_followed.specs.Beneath.machine_model.specs.Swapping.{is_carried_out, stands_in}
use Rattle.proof_followed.specs.Beneath.machine_model.proofs.Actors.{IsOf, is_of, mark_only, marks_in, marks_by, of_others, of_itself}
use Rattle.proof_followed.specs.Beneath.machine_model.proofs.Frames.{limits_kept}
use Rattle.proof_followed.specs.Beneath.proof_memory.proofs.Safety.States.{IsSafe}
use Rattle.proof_followed.specs.Beneath.proof_memory.proofs.Safety.Steps.{safe_after, step_claims}
use Rattle.proof_followed.specs.Beneath.proof_generations.specs.Laws.Roots.{settles}
use Rattle.proof_garbage.proofs.Claims.{Are}
use Rattle.proof_garbage.proofs.Kept.{IsSwapIn, slots_kept}
use Rattle.proof_followed.specs.Followed.{IsFollowed, from_root, from_operation, followed_by}
use Rattle.proof_followed.proofs.InUse.{closed}
use Rattle.proof_followed.proofs.RootWords.{roots_after}
use Rattle.proof_followed.proofs.Step.{followed_so}

module _ (state : State) (I : IsSafe state) (P : ℕ → Type 0) (actor k : ℕ) (operation : Operation) (is : operation_of state actor ≡ Some operation)
    (found : get_or state.actors k None ≡ Some operation) (own_place : actor ≡ suc k) (old : P operation.id → ⊥) (its : Root) (is_open : root_at state (handle_of operation.call) ≡ Some its)
    (no_swap : IsSwapIn (action_of state operation) → ⊥) (B : Ref → Type 0)
    (offers : (offer : Descriptor) → settles (action_of state operation) ≡ Some offer → stands_in (word_at state (handle_of operation.call)) offer ≡ true →
    word_at state (handle_of operation.call) ≡ Offer offer)
    (failed : (i main previous : Ref) → action_of state operation ≡ act.Restore i main previous → prev_at state.heap main ≡ prev.Failed previous)
    (brings : (offer : Descriptor) (main : Ref) → action_of state operation ≡ act.Complete offer main → is_carried_out (word_at state (handle_of operation.call)) offer main ≡ true →
    (IsFollowed state P offer.successor ⊎ B offer.successor) × ((q : Ref) → offer.second ≡ Some q → IsFollowed state P q ⊎ B q))
    (below : (q : Ref) (slot : Slot) → B q → standing (settled state (gone state actor operation)).heap q ≡ Some slot → Are (λ x. IsFollowed state P x ⊎ B x) (refs_of_slot (Some slot))) where
  abbrev K : Ref → Type 0
  K = IsFollowed state P

  abbrev W : Ref → Type 0
  W x = K x ⊎ B x

  abbrev after : State
  after = settled state (gone state actor operation)

  module _ (o : Outcome) (m : Moves state (step.Go actor) o after) where
    -- what others follow
    hands_by : (j : ℕ) → Dec (IsOf (suc j) (step.Go actor)) → (other : Operation) → get_or after.actors j None ≡ Some other → P other.id → Are K (followed_by after other)
    hands_by j (no apart) other at_j p =
        let (was, at_was, same) = of_others state (step.Go actor) o after m j apart other at_j in
        let only = same ∙ mark_only (marks_in state (step.Go actor)) was in
        subst (λ (x : Operation). Are K (followed_by after x)) (sym only)
        (subst (λ (l : Bounds). Are K (followed_by (record state { limits = l }) was)) (sym (limits_kept state (step.Go actor) o after m))
        (λ r c. from_operation (suc j) was r at_was (subst (λ (x : Operation). P x.id) only p) c))
    hands_by j (yes own) other at_j p =
        absurd (old (subst (λ (x : Operation). P x.id) (of_itself state actor operation j own other at_j ∙ mark_only (marks_by state (Some operation)) (operation_after state operation)) p))

    hands : (actor' : ℕ) (other : Operation) → operation_of after actor' ≡ Some other → P other.id → Are K (followed_by after other)
    hands zero other e p = absurd (none-some other e)
    hands (suc j) other e p = hands_by j (is_of (suc j) (step.Go actor)) other e p

    slots_so : (q : Ref) (slot : Slot) → W q → standing after.heap q ≡ Some slot → Are W (refs_of_slot (Some slot))
    slots_so q slot (inl known) e r c =
        inl (slots_kept state I K (closed state I P) actor operation failed (action_of state operation) refl no_swap (step_claims state I k operation found) q slot known e r c)
    slots_so q slot (inr b) e r c = below q slot b e r c

    pub other_followed : {r : Ref} → IsFollowed after P r → W r
    other_followed =
        followed_so after (safe_after state I (step.Go actor) o after m) P W
        (roots_after state W (λ handle root e. inl (from_root handle root (root_of root.word) e refl)) actor operation its is_open offers brings (action_of state operation) refl)
        (λ a other e q r c. inl (hands a other e q r c)) slots_so
