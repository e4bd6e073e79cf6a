-- Counts of references: how many of them name a slot.
use Rattle.std.specs.Prelude.{ℕ, ◌==◌, List, ◌++◌, count_by}
use Rattle.slot_arena.specs.declared.refs.Ref.{Ref}
use Rattle.slot_arena.specs.Heaps.{Heap, heap_refs}

-- the count of a slot in use: the references to it that stand in slots in use, and those that are held from outside
unfoldable pub count_of : Heap → List Ref → Ref → ℕ
count_of heap outside r = count_by (λ q. q == r) (heap_refs heap ++ outside)
