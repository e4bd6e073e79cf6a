-- What a state with more free slots and steps has, the state has.
use Rattle.std.proofs.Common.{◌≡◌, ℕ, Contains, get_or, None, subst}
use Rattle.machine_model.specs.Beneath.slot_arena.specs.declared.refs.Ref.{Ref}
use Rattle.machine_model.specs.Beneath.slot_arena.specs.Heaps.{refs_of_slot}
use Rattle.machine_model.specs.States.{State}
use Rattle.proof_waiting.specs.Beneath.proof_slots.specs.Lasting.{widened}
use Rattle.proof_waiting.specs.Beneath.proof_slots.proofs.Padded.Lists.{get_longer}
use Rattle.proof_waiting.specs.Beneath.proof_slots.proofs.Padded.Heaps.{stored_wide}
use Rattle.lock_free.specs.Live.{IsLive, from_root, from_operation, from_slot}
use Rattle.lock_free.specs.Nodes.{IsAhead}

module _ (more m : ℕ) (state : State) where
  abbrev wide : State
  wide = widened more m state

  pub slot_in : (k : ℕ) → get_or wide.heap.slots k None ≡ get_or state.heap.slots k None
  slot_in k = get_longer more state.heap.slots k

  pub live_in : {r : Ref} → IsLive wide r → IsLive state r
  live_in (from_root handle r c) = from_root handle r c
  live_in (from_operation actor operation r e p c) = from_operation actor operation r e p c
  live_in (from_slot q r k c) = from_slot q r (live_in k) (subst (λ o. Contains (refs_of_slot o) r) (stored_wide more state.limits.slots state.heap q) c)

  pub ahead_in : (i a f : Ref) → IsAhead wide i a f → IsAhead state i a f
  ahead_in i a f h = record { actor = h.actor; operation = h.operation; runs = h.runs; why = h.why; on = h.on }

  pub ahead_wide : (i a f : Ref) → IsAhead state i a f → IsAhead wide i a f
  ahead_wide i a f h = record { actor = h.actor; operation = h.operation; runs = h.runs; why = h.why; on = h.on }
