-- What an action does to the heap, said of the heap alone.
use Rattle.std.specs.Prelude.{◌≡◌, ℕ}
use Rattle.machine_model.specs.Beneath.slot_arena.specs.Heaps.{Heap, taken}
use Rattle.machine_model.specs.declared.actions.Action.{Action}
use Rattle.machine_model.specs.declared.actions.Action.TheVariants as act
use Rattle.machine_model.specs.Reading.{verdict}
use Rattle.machine_model.specs.States.{State}
use Rattle.machine_model.specs.Acting.{acted, published, restored, decided}

-- The heap after an action. The making of a root stands apart, since it draws a generation.
abbrev pub acted_heap : Heap → Action → Heap
acted_heap heap act.ReadRoot = heap
acted_heap heap (act.Abort offer) = heap
acted_heap heap (act.Offer offer) = heap
acted_heap heap (act.Complete offer main) = heap
acted_heap heap (act.ReadMain indirection) = heap
acted_heap heap (act.Publish indirection replaced fresh) = published heap indirection replaced fresh
acted_heap heap (act.Restore indirection main previous) = restored heap indirection main previous
acted_heap heap (act.ReadPrev main) = heap
acted_heap heap (act.Decide indirection main previous root_seen) = decided heap main previous (verdict heap indirection main previous root_seen)
acted_heap heap (act.Look at) = heap
acted_heap heap (act.Make node) = taken heap node
acted_heap heap (act.MakeRoot main) = heap
acted_heap heap (act.End answer) = heap

-- the action draws no generation
abbrev pub DrawsNone : Action → Type 0
DrawsNone (act.MakeRoot main) = ⊥
DrawsNone action = Unit {0}

-- a law: the heap after an action of the machine, whatever stands beside its heap
abbrev pub ActsOnHeap : Type 0
ActsOnHeap = (state : State) → (handle : ℕ) → (action : Action) → DrawsNone action → (acted state handle action).heap ≡ acted_heap state.heap action
