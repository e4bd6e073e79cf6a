-- What is known in a safe state is in use and closed under slots, so what lines claim they claim of it.
use Rattle.std.proofs.Common.{◌≡◌, ℕ, Contains, get_or, Some, None, sym, subst, inl, inr}
use Rattle.std.proofs.lemmas.List.Elements.{Contains-append_cases, All-contains}
use Rattle.proof_garbage.specs.Beneath.slot_arena.specs.declared.refs.Ref.{Ref}
use Rattle.proof_garbage.specs.Beneath.slot_arena.specs.declared.nodes.Slot.{Slot}
use Rattle.proof_garbage.specs.Beneath.slot_arena.specs.Heaps.{refs_of_slot}
use Rattle.proof_garbage.specs.Beneath.machine_model.specs.declared.operations.Operation.{Operation}
use Rattle.proof_garbage.specs.Beneath.machine_model.specs.States.{State, operation_of}
use Rattle.proof_garbage.specs.Beneath.machine_model.specs.Counting.{refs_of_root}
use Rattle.proof_garbage.specs.Beneath.machine_model.specs.Operations.{action_of}
use Rattle.proof_garbage.specs.Beneath.machine_model.specs.Grown.{standing}
use Rattle.proof_garbage.specs.Beneath.proof_memory.specs.Wants.{AllHold, word_wants, action_wants}
use Rattle.proof_garbage.specs.Beneath.proof_memory.specs.Laws.{IsInUse}
use Rattle.proof_garbage.specs.Beneath.proof_memory.proofs.Claims.Nodes.{Heaped}
use Rattle.proof_garbage.specs.Beneath.proof_memory.proofs.Safety.Guards.{Safe}
use Rattle.proof_garbage.specs.Beneath.proof_memory.proofs.Safety.States.{IsSafe}
use Rattle.proof_garbage.specs.Beneath.proof_memory.proofs.Safety.Steps.{of_actor}
use Rattle.proof_garbage.specs.Beneath.proof_memory.proofs.Safety.Standing.{in_root, in_any_slot}
use Rattle.proof_garbage.specs.Beneath.proof_memory.proofs.Heap.RootWords.{WordsHold}
use Rattle.proof_garbage.specs.Beneath.proof_memory.proofs.Lines.Acts.{line_acts}
use Rattle.proof_garbage.specs.Live.{refs_of_claims, line_claims, at_hand, IsKnown, from_root, from_operation, from_slot}
use Rattle.proof_garbage.proofs.Claims.{Are, first_of, last_of, refs_held, hold_by, word_claimed}
use Rattle.proof_garbage.proofs.Closed.{IsClosed, slot_closed, entries_closed, heaped_closed}

module _ (state : State) (I : IsSafe state) (P : ℕ → Type 0) where
  abbrev pub Known : Ref → Type 0
  Known = IsKnown state P

  operation_used : (actor : ℕ) (operation : Operation) (r : Ref) → operation_of state actor ≡ Some operation → Contains (at_hand state operation) r → IsInUse state.heap r
  operation_used actor operation r e c =
      let (k, at_k) = of_actor state (λ k operation. get_or state.actors k None ≡ Some operation) (λ k operation e. e) actor operation e in
      elim (Contains-append_cases (refs_of_claims (line_claims state operation)) operation.private r c) [
        | inl a ↦ (refs_held (Safe state operation.epoch) state.heap (line_claims state operation) (I.lines k operation at_k) r a).used
        | inr b ↦ All-contains (IsInUse state.heap) operation.private r (I.privates k operation at_k) b
      ]

  pub known_used : {r : Ref} → IsKnown state P r → IsInUse state.heap r
  known_used (from_root handle r c) = in_root state I handle r c
  known_used (from_operation actor operation r e p c) = operation_used actor operation r e c
  known_used (from_slot q r k c) = in_any_slot state I q r c

  pub closed : IsClosed state Known
  closed = record { used = known_used; under = from_slot }

  pub slot_known : (q : Ref) (slot : Slot) → Known q → standing state.heap q ≡ Some slot → Are Known (refs_of_slot (Some slot))
  slot_known = slot_closed state I Known closed

  pub heaped_known : Heaped Known state.heap
  heaped_known = heaped_closed state I Known closed

  pub words_known : WordsHold Known state.heap state
  words_known handle root e =
      hold_by (IsInUse state.heap) Known state.heap (entries_closed state I Known closed) (word_wants root.word) (I.words handle root e)
      (word_claimed Known root.word (λ r c. from_root handle r (subst (λ o. Contains (refs_of_root o) r) (sym e) c)))

  module _ (actor : ℕ) (operation : Operation) (e : operation_of state actor ≡ Some operation) (p : P operation.id) where
    pub line_known : AllHold Known state.heap (line_claims state operation)
    line_known =
        let (k, at_k) = of_actor state (λ k operation. get_or state.actors k None ≡ Some operation) (λ k operation e. e) actor operation e in
        hold_by (Safe state operation.epoch) Known state.heap (entries_closed state I Known closed) (line_claims state operation) (I.lines k operation at_k)
        (first_of Known (refs_of_claims (line_claims state operation)) operation.private (λ r c. from_operation actor operation r e p c))

    pub privates_known : Are Known operation.private
    privates_known = last_of Known (refs_of_claims (line_claims state operation)) operation.private (λ r c. from_operation actor operation r e p c)

    -- what its action names
    pub action_known : AllHold Known state.heap (action_wants (action_of state operation))
    action_known = line_acts state operation Known heaped_known operation.line line_known

    pub named_known : Are Known (refs_of_claims (action_wants (action_of state operation)))
    named_known = refs_held Known state.heap (action_wants (action_of state operation)) action_known
