-- The laws on references and look-ups, from safe memory.
use Rattle.std.proofs.Common.{◌≡◌, ℕ, [], All, Contains, get_or, Option, Some, None, refl, sym, ap, ◌∙◌, arith}
use Rattle.std.proofs.lemmas.List.Elements.{All-contains, All-append}
use Rattle.proof_memory.specs.Vocabulary.{ref_to, slot_of, Ref, Slot, stored, refs_of_node, refs_of_prev, refs_of_slot, Operation, Root, State, root_at, operation_of, refs_of_root, standing}
use Rattle.proof_memory.specs.Wants.{node_wants, prev_wants}
use Rattle.proof_memory.specs.Laws.{IsInUse}
use Rattle.proof_memory.proofs.Claims.Uses.{first_hold, last_hold}
use Rattle.proof_memory.proofs.Heap.Under.{standing_from}
use Rattle.proof_memory.proofs.Safety.Held.{node_refs, prev_refs, word_refs}
use Rattle.proof_memory.proofs.Safety.States.{IsSafe}
use Rattle.proof_memory.proofs.Safety.Steps.{of_actor}
use Rattle.proof_memory.specs.Beneath.slot_arena.proofs.Live.{slot_of_ref, birth_of_ref}

pub none_contained : {P : Type 0} (r : Ref) → Contains [] r → P
none_contained r (i, within, at_i) = absurd (omega arith)

module _ (state : State) (I : IsSafe state) where
  in_root_by : (handle : ℕ) (o : Option Root) → root_at state handle ≡ o → (r : Ref) → Contains (refs_of_root o) r → IsInUse state.heap r
  in_root_by handle None e r c = none_contained r c
  in_root_by handle (Some root) e r c = All-contains (IsInUse state.heap) _ r (word_refs (IsInUse state.heap) state.heap root.word (I.words handle root e)) c

  pub in_root : (handle : ℕ) (r : Ref) → Contains (refs_of_root (root_at state handle)) r → IsInUse state.heap r
  in_root handle r c = in_root_by handle (root_at state handle) refl r c

  pub in_private_list : (actor : ℕ) (operation : Operation) (r : Ref) → operation_of state actor ≡ Some operation → Contains operation.private r → IsInUse state.heap r
  in_private_list actor operation r e c =
      let (k, all) = of_actor state (λ k operation. All (IsInUse state.heap) operation.private) (I.privates) actor operation e in All-contains (IsInUse state.heap) operation.private r all c

  -- each reference of a slot that stands
  pub slot_refs : (q : Ref) (slot : Slot) → standing state.heap q ≡ Some slot → All (IsInUse state.heap) (refs_of_slot (Some slot))
  slot_refs q slot e =
      let claims = (I.nodes q slot e).0 in
      All-append (IsInUse state.heap) (refs_of_node slot.node) (refs_of_prev slot.prev)
      (node_refs (IsInUse state.heap) state.heap slot.node (first_hold (IsInUse state.heap) state.heap (node_wants slot.node) (prev_wants slot.prev) claims))
      (prev_refs (IsInUse state.heap) state.heap slot.prev (last_hold (IsInUse state.heap) state.heap (node_wants slot.node) (prev_wants slot.prev) claims))

  -- what is stored stands under some reference
  pub stored_stands : (q : Ref) (slot : Slot) → stored state.heap q ≡ Some slot → standing state.heap (ref_to slot.birth (slot_of q)) ≡ Some slot
  unfolding stored
  stored_stands q slot e =
      standing_from state.heap (ref_to slot.birth (slot_of q)) slot
      (ap (λ k. get_or state.heap.slots k None) (slot_of_ref slot.birth (slot_of q)) ∙ e) (sym (birth_of_ref slot.birth (slot_of q)))

  in_slot_by : (q r : Ref) (o : Option Slot) → stored state.heap q ≡ o → Contains (refs_of_slot o) r → IsInUse state.heap r
  in_slot_by q r None e c = none_contained r c
  in_slot_by q r (Some slot) e c = All-contains (IsInUse state.heap) _ r (slot_refs (ref_to slot.birth (slot_of q)) slot (stored_stands q slot e)) c

  pub in_any_slot : (q r : Ref) → Contains (refs_of_slot (stored state.heap q)) r → IsInUse state.heap r
  in_any_slot q r c = in_slot_by q r (stored state.heap q) refl c
