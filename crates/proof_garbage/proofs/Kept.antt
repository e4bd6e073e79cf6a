-- Where an operation's step swaps no fresh node in, what stands next to what is so afterwards is so: what is put back or decided stood next to it before.
use Rattle.std.proofs.Common.{◌≡◌, ℕ, ◌==◌, Bool, true, false, Option, Some, None, refl, sym, ap, ◌∙◌, subst, eqb-true, inl, inr}
use Rattle.std.proofs.lemmas.Bool.{cases_eq, false≢true}
use Rattle.std.proofs.lemmas.Option.{none-some, same_Some}
use Rattle.proof_garbage.specs.Beneath.slot_arena.specs.declared.refs.Ref.{Ref}
use Rattle.proof_garbage.specs.Beneath.slot_arena.specs.declared.nodes.Node.{Node}
use Rattle.proof_garbage.specs.Beneath.slot_arena.specs.declared.nodes.Node.TheVariants.{Indirection}
use Rattle.proof_garbage.specs.Beneath.slot_arena.specs.declared.nodes.Prev.{Prev}
use Rattle.proof_garbage.specs.Beneath.slot_arena.specs.declared.nodes.Prev.TheVariants as prev
use Rattle.proof_garbage.specs.Beneath.slot_arena.specs.declared.nodes.Slot.{Slot}
use Rattle.proof_garbage.specs.Beneath.slot_arena.specs.Heaps.{Heap, main_at, prev_at, next_ref, with_main, with_prev, taken, refs_of_prev, refs_of_slot}
use Rattle.proof_garbage.specs.Beneath.machine_model.specs.declared.actions.Action.{Action}
use Rattle.proof_garbage.specs.Beneath.machine_model.specs.declared.actions.Action.TheVariants as act
use Rattle.proof_garbage.specs.Beneath.machine_model.specs.declared.operations.Operation.{Operation}
use Rattle.proof_garbage.specs.Beneath.machine_model.specs.Calls.{handle_of}
use Rattle.proof_garbage.specs.Beneath.machine_model.specs.States.{State, with_operation}
use Rattle.proof_garbage.specs.Beneath.machine_model.specs.Reading.{Verdict, Commits, Fails, Overtaken, verdict, verdict_by, is_pending, is_licensed}
use Rattle.proof_garbage.specs.Beneath.machine_model.specs.Operations.{action_of}
use Rattle.proof_garbage.specs.Beneath.machine_model.specs.Acting.{acted, operation_after, decided, new_root_taken, if_changed}
use Rattle.proof_garbage.specs.Beneath.machine_model.specs.Grown.{standing}
use Rattle.proof_garbage.specs.Beneath.machine_model.proofs.HeapMoves.{aborted_heap, offered_heap, completed_heap}
use Rattle.proof_garbage.specs.Beneath.proof_memory.specs.Wants.{AnIndirection, AllHold, action_wants, prev_wants}
use Rattle.proof_garbage.specs.Beneath.proof_memory.specs.Laws.{IsInUse}
use Rattle.proof_garbage.specs.Beneath.proof_memory.proofs.Claims.Uses.{safe_of, meets_of, from_meets}
use Rattle.proof_garbage.specs.Beneath.proof_memory.proofs.Claims.Nodes.{main_read}
use Rattle.proof_garbage.specs.Beneath.proof_memory.proofs.Heap.Under.{main_here, main_other, prev_here, prev_other, taken_all, none_taken}
use Rattle.proof_garbage.specs.Beneath.proof_memory.proofs.Safety.Guards.{Safe}
use Rattle.proof_garbage.specs.Beneath.proof_memory.proofs.Safety.States.{IsSafe}
use Rattle.proof_garbage.proofs.Claims.{Are, none_in, one_in}
use Rattle.proof_garbage.proofs.Closed.{IsClosed, slot_closed, heaped_closed}
use Rattle.proof_garbage.proofs.Step.{main_slot, prev_slot}

-- what a test finds pending is so
pub pending_is : (p : Prev) (previous : Ref) → is_pending p previous ≡ true → p ≡ prev.Pending previous
pending_is prev.None previous e = absurd (false≢true e)
pending_is (prev.Failed x) previous e = absurd (false≢true e)
pending_is (prev.Pending x) previous e = ap prev.Pending (eqb-true x previous e)

-- it swaps a fresh node in
abbrev pub IsSwapIn : Action → Type 0
IsSwapIn (act.Publish i replaced fresh) = Unit {0}
IsSwapIn action = ⊥

module _ (state : State) (I : IsSafe state) (K : Ref → Type 0) (C : IsClosed state K) (actor : ℕ) (operation : Operation)
    (failed : (i main previous : Ref) → action_of state operation ≡ act.Restore i main previous → prev_at state.heap main ≡ prev.Failed previous) where
  abbrev S : Ref → Type 0
  S = Safe state operation.epoch

  abbrev put : State
  put = with_operation state actor (Some (operation_after state operation))

  abbrev handle : ℕ
  handle = handle_of operation.call

  abbrev KnownSlots : Heap → Type 0
  KnownSlots heap = (q : Ref) (slot : Slot) → K q → standing heap q ≡ Some slot → Are K (refs_of_slot (Some slot))

  slots_before : KnownSlots state.heap
  slots_before = slot_closed state I K C

  same_slots : (heap : Heap) → heap ≡ state.heap → KnownSlots heap
  same_slots heap e = subst KnownSlots (sym e) slots_before

  restored_slots : (i main previous : Ref) → action_of state operation ≡ act.Restore i main previous → AllHold S state.heap (action_wants (act.Restore i main previous)) →
      (b : Bool) → (main_at state.heap i == main) ≡ b → KnownSlots (if_changed b (with_main state.heap i previous) state.heap)
  restored_slots i main previous a h false e q slot k stands = slots_before q slot k stands
  restored_slots i main previous a h true e q slot k stands =
      let (was, at_i) = (safe_of h.0).used in
      elim (cases_eq q i) [
        | inl s ↦
            let known_i = subst K s k in
            let known_main = subst K (eqb-true _ _ e) (safe_of (main_read K state.heap (heaped_closed state I K C) (from_meets {wanted = AnIndirection} i (known_i, meets_of h.0)))) in
            let known_previous = safe_of (subst (λ p. AllHold K state.heap (prev_wants p)) (failed i main previous a) ((heaped_closed state I K C).before main known_main)).0 in
            subst (λ x. Are K (refs_of_slot (Some x))) (same_Some _ _ (sym (main_here state.heap i previous was at_i) ∙ ap (standing (with_main state.heap i previous)) (sym s) ∙ stands))
            (main_slot K state.heap (standing state.heap) (standing state.heap) 0 0 slots_before previous was (slots_before i was known_i at_i) known_previous)
        | inr other ↦ slots_before q slot k (sym (main_other state.heap i previous was at_i q other) ∙ stands)
      ]

  verdict_fails : (a b : Bool) → verdict_by a b ≡ Fails → b ≡ true
  verdict_fails true true e = refl
  verdict_fails false true e = refl
  verdict_fails a false e = let wrong : ⊥ = cc in absurd wrong

  prev_slots : (main : Ref) (p : Prev) → IsInUse state.heap main → (K main → Are K (refs_of_prev p)) → KnownSlots (with_prev state.heap main p)
  prev_slots main p (was, at_main) f q slot k stands = elim (cases_eq q main) [
    | inl s ↦
        subst (λ x. Are K (refs_of_slot (Some x))) (same_Some _ _ (sym (prev_here state.heap main p was at_main) ∙ ap (standing (with_prev state.heap main p)) (sym s) ∙ stands))
        (prev_slot K state.heap (standing state.heap) (standing state.heap) 0 0 slots_before p was (slots_before main was (subst K s k) at_main) (f (subst K s k)))
    | inr other ↦ slots_before q slot k (sym (prev_other state.heap main p was at_main q other) ∙ stands)
  ]

  decided_slots : (i main previous : Ref) (told : Option ℕ) → AllHold S state.heap (action_wants (act.Decide i main previous told)) → (v : Verdict) → verdict state.heap i main previous told ≡ v →
      KnownSlots (decided state.heap main previous v)
  decided_slots i main previous told h Commits e = prev_slots main prev.None (safe_of h.1.0).used (λ known r c. none_in r c)
  decided_slots i main previous told h Fails e =
      prev_slots main (prev.Failed previous) (safe_of h.1.0).used
      (λ known. one_in K previous
      (safe_of (subst (λ p. AllHold K state.heap (prev_wants p)) (pending_is (prev_at state.heap main) previous (verdict_fails (is_licensed state.heap i told) _ e))
      ((heaped_closed state I K C).before main known)).0))
  decided_slots i main previous told h (Overtaken licensed) e = slots_before

  made_slots : (node : Node) (o : Option Ref) → next_ref state.heap ≡ o → KnownSlots (taken state.heap node)
  made_slots node None e q slot k stands = same_slots (taken state.heap node) (none_taken state.heap node e) q slot k stands
  made_slots node (Some made) e q slot k stands =
      let (here, none, others, birth) = taken_all state.limits.slots state.heap (I.sound.heap) node made e in
      elim (cases_eq q made) [
        | inl s ↦ absurd (none-some ((C.used k).0) (sym (ap (standing state.heap) s ∙ none) ∙ (C.used k).1))
        | inr other ↦ slots_before q slot k (sym (others q other) ∙ stands)
      ]

  root_slots : (main : Ref) (o : Option Ref) → next_ref state.heap ≡ o → KnownSlots (new_root_taken put main o).heap
  root_slots main None e = slots_before
  root_slots main (Some made) e = made_slots (Indirection state.generations main) (Some made) e

  pub slots_kept : (action : Action) → action_of state operation ≡ action → (IsSwapIn action → ⊥) → AllHold S state.heap (action_wants action) → KnownSlots (acted put handle action).heap
  slots_kept (act.Abort offer) a other h = same_slots _ (aborted_heap put handle offer)
  slots_kept (act.Offer offer) a other h = same_slots _ (offered_heap put handle offer)
  slots_kept (act.Complete offer main) a other h = same_slots _ (completed_heap put handle offer main)
  slots_kept (act.Publish i replaced fresh) a other h = absurd (other tt)
  slots_kept (act.Restore i main previous) a other h = restored_slots i main previous a h (main_at state.heap i == main) refl
  slots_kept (act.Decide i main previous told) a other h = decided_slots i main previous told h (verdict state.heap i main previous told) refl
  slots_kept (act.Make node) a other h = made_slots node (next_ref state.heap) refl
  slots_kept (act.MakeRoot main) a other h = root_slots main (next_ref state.heap) refl
  slots_kept action a other h = slots_before
