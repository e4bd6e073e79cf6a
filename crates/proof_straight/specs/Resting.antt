-- What each run leaves to a call that runs alone behind it.
use Rattle.std.specs.Prelude.{◌≡◌, ◌≤◌, List}
use Rattle.proof_straight.specs.Vocabulary.{Bounds, Step, KeysFit, AreBounds, longest_life, most_actors, most_slots, run, State}
use Rattle.proof_straight.specs.Running.{HasEmptySlots, IsUpToDate}

-- a run of these steps leads to the state; its bounds are in range, of its slots, actors and steps too, and the keys of its calls have 64 bits
pub record IsOfRun (state : State) : Type 0 where
  pub steps : List Step
  pub is : state ≡ run state.limits steps
  pub limits : AreBounds state.limits
  pub few : state.limits.slots ≤ most_slots
  pub actors : state.limits.actors ≤ most_actors
  pub life : state.limits.steps ≤ longest_life
  pub keys : KeysFit steps

-- limbo is up to date after each run
abbrev pub LimboUpToDate : Type 0
LimboUpToDate = (limits : Bounds) (steps : List Step) → AreBounds limits → IsUpToDate (run limits steps)

-- and the free slots are empty ones
abbrev pub FreeSlotsEmpty : Type 0
FreeSlotsEmpty = (limits : Bounds) (steps : List Step) → AreBounds limits → HasEmptySlots (run limits steps).heap
