-- The laws of more slots.
use Rattle.std.specs.Prelude.{◌≡◌, ℕ, ◌+◌, ◌≤◌, List, [], ◌∷◌, ◌++◌, length}
use Rattle.proof_slots.specs.Vocabulary.{Bounds, Step, AreBounds, next, run, record_of}
use Rattle.proof_slots.specs.Padding.{with_slots, padded, padded_answer}

-- before each of these steps a slot is free
abbrev pub HasFreeSlots : Bounds → List Step → Type 0
HasFreeSlots limits steps = (done rest : List Step) (s : Step) → steps ≡ done ++ s ∷ rest → 1 ≤ length (run limits done).heap.free

-- with more slots the same steps lead to the same state, but for these slots, and the same is recorded
abbrev pub MoreSlotsAlike : Type 0
MoreSlotsAlike =
    (more : ℕ) (limits : Bounds) (steps : List Step) → AreBounds limits → HasFreeSlots limits steps →
    (run (with_slots more limits) steps ≡ padded more (run limits steps)) × (record_of (with_slots more limits) steps ≡ record_of limits steps)

-- and the next step comes to the same, where a slot is free before it
abbrev pub MoreSlotsAnswer : Type 0
MoreSlotsAnswer =
    (more : ℕ) (limits : Bounds) (steps : List Step) (s : Step) → AreBounds limits → HasFreeSlots limits (steps ++ s ∷ []) →
    next (run (with_slots more limits) steps) s ≡ padded_answer more (next (run limits steps) s)

-- a slot is free before each step where there are two slots more than steps
abbrev pub FewStepsHaveSlots : Type 0
FewStepsHaveSlots = (limits : Bounds) (steps : List Step) → length steps + 2 ≤ limits.slots → HasFreeSlots limits steps
