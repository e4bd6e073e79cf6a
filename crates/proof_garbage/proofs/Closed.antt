-- What is in use and leads on through slots alone: lines claim of it what they claim.
use Rattle.std.proofs.Common.{◌≡◌, ℕ, ◌<◌, Contains, length, Some, sym, ap, ◌∙◌, subst}
use Rattle.std.proofs.lemmas.List.Elements.{Contains-append_left}
use Rattle.proof_garbage.specs.Beneath.slot_arena.specs.declared.refs.Ref.{Ref}
use Rattle.proof_garbage.specs.Beneath.slot_arena.specs.declared.nodes.Slot.{Slot}
use Rattle.proof_garbage.specs.Beneath.slot_arena.specs.Heaps.{stored, node_at, entry_at, entries_of, refs_of_node, refs_of_prev, refs_of_slot}
use Rattle.proof_garbage.specs.Beneath.machine_model.specs.States.{State}
use Rattle.proof_garbage.specs.Beneath.machine_model.specs.Grown.{standing}
use Rattle.proof_garbage.specs.Beneath.machine_model.proofs.Grown.{standing_parts, node_standing, prev_standing}
use Rattle.proof_garbage.specs.Beneath.proof_memory.specs.Wants.{is_formed, AllHold, node_wants, prev_wants}
use Rattle.proof_garbage.specs.Beneath.proof_memory.specs.Laws.{IsInUse}
use Rattle.proof_garbage.specs.Beneath.proof_memory.proofs.Claims.Uses.{first_hold, last_hold}
use Rattle.proof_garbage.specs.Beneath.proof_memory.proofs.Claims.Nodes.{Heaped}
use Rattle.proof_garbage.specs.Beneath.proof_memory.proofs.Safety.States.{IsSafe}
use Rattle.proof_garbage.proofs.Claims.{Are, first_of, last_of, hold_by, entry_in, node_claimed, prev_claimed}

-- what is so is in use, and what stands in its slot is so
pub record IsClosed (state : State) (K : Ref → Type 0) : Type 0 where
  pub used : {r : Ref} → K r → IsInUse state.heap r
  pub under : (q r : Ref) → K q → Contains (refs_of_slot (stored state.heap q)) r → K r

module _ (state : State) (I : IsSafe state) (K : Ref → Type 0) (C : IsClosed state K) where
  pub slot_closed : (q : Ref) (slot : Slot) → K q → standing state.heap q ≡ Some slot → Are K (refs_of_slot (Some slot))
  slot_closed q slot k stands r c = C.under q r k (subst (λ o. Contains (refs_of_slot o) r) (sym ((standing_parts state.heap q slot stands).0)) c)

  pub entries_closed : (main : Ref) (position : ℕ) → K main → position < length (entries_of (node_at state.heap main)) → K (entry_at state.heap main position)
  entries_closed main position k within =
      let (slot, stands) = C.used k in
      slot_closed main slot k stands (entry_at state.heap main position)
      (Contains-append_left (refs_of_node slot.node) (refs_of_prev slot.prev) (entry_at state.heap main position)
      (subst (λ n. Contains (refs_of_node n) (entry_at state.heap main position)) (node_standing state.heap main slot stands) (entry_in (node_at state.heap main) position within)))

  pub heaped_closed : Heaped K state.heap
  heaped_closed = record {
    inside = λ r k.
        let (slot, stands) = C.used k in
        subst (λ n. AllHold K state.heap (node_wants n)) (sym (node_standing state.heap r slot stands))
        (hold_by (IsInUse state.heap) K state.heap entries_closed (node_wants slot.node)
        (first_hold (IsInUse state.heap) state.heap (node_wants slot.node) (prev_wants slot.prev) ((I.nodes r slot stands).0))
        (node_claimed K slot.node (first_of K (refs_of_node slot.node) (refs_of_prev slot.prev) (slot_closed r slot k stands))));
    formed = λ r k. let (slot, stands) = C.used k in ap is_formed (node_standing state.heap r slot stands) ∙ (I.nodes r slot stands).1;
    before = λ r k.
        let (slot, stands) = C.used k in
        subst (λ p. AllHold K state.heap (prev_wants p)) (sym (prev_standing state.heap r slot stands))
        (hold_by (IsInUse state.heap) K state.heap entries_closed (prev_wants slot.prev)
        (last_hold (IsInUse state.heap) state.heap (node_wants slot.node) (prev_wants slot.prev) ((I.nodes r slot stands).0))
        (prev_claimed K slot.prev (last_of K (refs_of_node slot.node) (refs_of_prev slot.prev) (slot_closed r slot k stands))));
  }
