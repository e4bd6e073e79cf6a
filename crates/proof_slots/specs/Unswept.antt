-- Lists of steps in which the sweep takes none: there is nothing that frees a slot.
use Rattle.std.specs.Prelude.{◌≡◌, ◌+◌, ◌≤◌, List, [], ◌∷◌, ◌++◌, length, Some}
use Rattle.std.specs.List.{range_with_len}
use Rattle.proof_slots.specs.Vocabulary.{Ref, Slot, slot_of, birth_of, Bounds, Step, standing, AreBounds, run}
use Rattle.machine_model.specs.declared.steps.Step.TheVariants as step
use Rattle.proof_memory.specs.Laws.{IsInUse, SameNode}
use Rattle.proof_slots.specs.Laws.{HasFreeSlots}

abbrev pub IsNoSweep : Step → Type 0
IsNoSweep step.Sweep = ⊥
IsNoSweep s = Unit {0}

-- none of the steps is the sweep's
abbrev pub HasNoSweeps : List Step → Type 0
HasNoSweeps [] = Unit {0}
HasNoSweeps (s ∷ steps) = IsNoSweep s × HasNoSweeps steps

-- what is in use stays in use, with its node but for an indirection's main word
abbrev pub NothingIsFreed : Type 0
NothingIsFreed =
    (limits : Bounds) (steps more : List Step) (r : Ref) (was : Slot) → AreBounds limits → HasNoSweeps more → standing (run limits steps).heap r ≡ Some was →
    (now : Slot) × (standing (run limits (steps ++ more)).heap r ≡ Some now) × SameNode was.node now.node

-- so a slot tells one reference from all others that were drawn
abbrev pub SlotsTellApart : Type 0
SlotsTellApart =
    (limits : Bounds) (steps more : List Step) (q r : Ref) → AreBounds limits → HasNoSweeps more → IsInUse (run limits steps).heap q → IsInUse (run limits (steps ++ more)).heap r →
    slot_of q ≡ slot_of r → q ≡ r

-- slots are taken by rising number: the next one has the number of births drawn, so a reference's birth is by one greater than its slot
abbrev pub SlotsAreTakenInOrder : Type 0
SlotsAreTakenInOrder =
    (limits : Bounds) (steps : List Step) → HasNoSweeps steps →
    ((run limits steps).heap.free ≡ range_with_len (run limits steps).heap.births (length (run limits steps).heap.free))
    × ((r : Ref) → IsInUse (run limits steps).heap r → birth_of r ≡ slot_of r + 1)

-- where a slot is free in the end, one was free before each step
abbrev pub FreeAtTheEnd : Type 0
FreeAtTheEnd = (limits : Bounds) (steps : List Step) → HasNoSweeps steps → 1 ≤ length (run limits steps).heap.free → HasFreeSlots limits steps
