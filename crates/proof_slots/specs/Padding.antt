-- The same machine with more slots: they are empty, and are taken after all others.
use Rattle.std.specs.Prelude.{ℕ, ◌+◌, ◌++◌, Ok, Err, None, replicate}
use Rattle.std.specs.List.{range_with_len}
use Rattle.proof_slots.specs.Vocabulary.{Heap, Bounds, State, Answer}

-- bounds with so many slots more
abbrev pub with_slots : ℕ → Bounds → Bounds
with_slots more limits = record limits { slots = limits.slots + more }

-- the heap of so many slots with more of them
abbrev pub padded_heap : ℕ → ℕ → Heap → Heap
padded_heap more slots heap = record { slots = heap.slots ++ replicate more None; free = heap.free ++ range_with_len slots more; births = heap.births }

-- the state with so many slots more
abbrev pub padded : ℕ → State → State
padded more state = record state { limits = with_slots more state.limits; heap = padded_heap more state.limits.slots state.heap }

abbrev pub padded_answer : ℕ → Answer → Answer
padded_answer more (Ok done) = Ok (done.0, padded more done.1)
padded_answer more (Err refusal) = Err refusal
