-- The same machine with more slots that may take another number of steps.
use Rattle.std.specs.Prelude.{◌≡◌, ℕ, ◌≤◌, List, length}
use Rattle.machine_model.specs.Lasting.{living, lasting}
use Rattle.proof_slots.specs.Vocabulary.{Bounds, Step, State, AreBounds, run, record_of}
use Rattle.proof_slots.specs.Padding.{with_slots, padded}
use Rattle.proof_slots.specs.Laws.{HasFreeSlots}

-- so many slots more, and so many steps
abbrev pub wider : ℕ → ℕ → Bounds → Bounds
wider more m limits = living (with_slots more limits) m

abbrev pub widened : ℕ → ℕ → State → State
widened more m state = lasting m (padded more state)

-- as long as a slot was free before each step, and both may take them all, steps lead to the same, but for these numbers, and the same is recorded of them
abbrev pub WiderAlike : Type 0
WiderAlike =
    (more m : ℕ) (limits : Bounds) (steps : List Step) → AreBounds limits → HasFreeSlots limits steps → length steps ≤ limits.steps → length steps ≤ m →
    (run (wider more m limits) steps ≡ widened more m (run limits steps)) × (record_of (wider more m limits) steps ≡ record_of limits steps)
