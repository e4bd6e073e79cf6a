-- How slots are taken, sweeps or none.
use Rattle.std.specs.Prelude.{◌<◌, List}
use Rattle.proof_slots.specs.Vocabulary.{Ref, slot_of, Bounds, Step, AreBounds, run}
use Rattle.proof_memory.specs.Laws.{IsInUse}

-- what is in use stands in one of as many first slots as births were drawn
abbrev pub SlotsAreBelowBirths : Type 0
SlotsAreBelowBirths = (limits : Bounds) (steps : List Step) (r : Ref) → AreBounds limits → IsInUse (run limits steps).heap r → slot_of r < (run limits steps).heap.births
