-- An indirection in use is so under the bounds of a longer account too, with the same main node, and who has replaced a main node, or sees that its own was refused, does so.
use Rattle.std.proofs.Common.{◌≡◌, ℕ, get_or, Some, None, ap, sym, ◌∙◌, eq-eqb, if◌then◌else◌}
use Rattle.machine_model.specs.Beneath.slot_arena.specs.declared.nodes.Slot.{Slot}
use Rattle.machine_model.specs.Beneath.slot_arena.specs.declared.refs.Ref.{Ref}
use Rattle.machine_model.specs.Beneath.slot_arena.specs.Heaps.{Heap, main_at, main_of, node_at, node_of, prev_at, prev_of, stored}
use Rattle.machine_model.specs.Beneath.slot_arena.specs.Refs.{birth_of, slot_of}
use Rattle.machine_model.specs.Grown.{of_birth, standing}
use Rattle.machine_model.specs.States.{State}
use Rattle.proof_claims.specs.Dropped.{HasFailed}
use Rattle.proof_commits.specs.Runs.{HasIndirection}
use Rattle.proof_memory.specs.Wants.{is_indirection}
use Rattle.proof_claims.specs.Beneath.proof_reuse.specs.Laws.{HasReplaced}
use Rattle.proof_waiting.specs.Beneath.proof_slots.specs.Lasting.{widened}
use Rattle.proof_waiting.specs.Beneath.proof_slots.proofs.Padded.Heaps.{stored_wide}
use Rattle.lock_free.proofs.OneStep.Retired.{used_wide}

module _ (more m : ℕ) (state : State) where
  abbrev wide : State
  wide = widened more m state

  pub node_wide : (r : Ref) → node_at wide.heap r ≡ node_at state.heap r
  unfolding node_at
  node_wide r = ap node_of (stored_wide more state.limits.slots state.heap r)

  pub standing_wide : (r : Ref) → standing wide.heap r ≡ standing state.heap r
  standing_wide r = ap (of_birth (birth_of r)) (stored_wide more state.limits.slots state.heap r)

  pub link_wide : (i : Ref) → HasIndirection state i → HasIndirection wide i
  link_wide i h = (used_wide more m state i h.0, ap is_indirection (node_wide i) ∙ h.1)

  pub main_wide : (i : Ref) → main_at wide.heap i ≡ main_at state.heap i
  main_wide i = ap main_of (node_wide i)

  pub prev_wide : (r : Ref) → prev_at wide.heap r ≡ prev_at state.heap r
  unfolding prev_at
  prev_wide r = ap prev_of (stored_wide more state.limits.slots state.heap r)

  pub replaced_wide : (actor : ℕ) (i a f : Ref) → HasReplaced state actor i a f → HasReplaced wide actor i a f
  replaced_wide actor i a f h = record { operation = h.operation; runs = h.runs; why = h.why; checks = h.checks; decided = prev_wide f ∙ h.decided }

  pub failed_wide : (actor : ℕ) (i a f : Ref) → HasFailed state actor i a f → HasFailed wide actor i a f
  failed_wide actor i a f h =
      record { operation = h.operation; runs = h.runs; why = h.why; checks = h.checks; uncommitted = λ none. h.uncommitted (sym (prev_wide f) ∙ none) }

-- what is stored with its birth stands
pub standing_by : (heap : Heap) (r : Ref) (slot : Slot) → get_or heap.slots (slot_of r) None ≡ Some slot → slot.birth ≡ birth_of r → standing heap r ≡ Some slot
unfolding stored
standing_by heap r slot at birth = ap (of_birth (birth_of r)) at ∙ ap (λ b. if b then Some slot else None) (eq-eqb slot.birth (birth_of r) birth)
