-- A heap on which a call that runs alone does its changes one after the other.
use Rattle.std.specs.Prelude.{◌≡◌, ℕ, ◌+◌, ◌<◌, ◌≤◌, true, [], length}
use Rattle.proof_core.specs.Vocabulary.{Ref, Heap, node_at, main_at, refs_of_node, IsLive, AreLive, is_indirection, times, State, birth_limit, Draft, held_with, HasEmptySlots}
use Rattle.proof_core.specs.Beneath.epochs.specs.Memories.{Memory}

-- the heap has come as far as the draft of a call that began in this state
pub record IsDraft (state : State) (draft : Draft) (memory : Memory) : Type 0 where
  pub heap : memory.heap ≡ draft.heap
  pub limbo : memory.limbo ≡ draft.limbo
  pub held : (r : Ref) → times r memory.outside ≡ times r (held_with state draft.private)
  pub epoch : memory.epoch ≡ state.epoch
  pub settled : memory.noted ≡ []

-- the actors' records and the sweep's place are as before
abbrev pub KeepsRecords : Memory → Memory → Type 0
KeepsRecords before after = (after.cursor ≡ before.cursor) × (after.pins ≡ before.pins)

-- so many nodes can be made, and the last one swapped into the indirection over this main node
pub record CanSwap (heap : Heap) (indirection main : Ref) (nodes : ℕ) : Type 0 where
  pub empty : HasEmptySlots heap
  pub free : nodes ≤ length heap.free
  pub births : heap.births + nodes < birth_limit
  pub live : IsLive heap indirection
  pub kind : is_indirection (node_at heap indirection) ≡ true
  pub over : main_at heap indirection ≡ main
  pub main_live : IsLive heap main
  pub entries : AreLive heap (refs_of_node (node_at heap main))
