-- What the steps of a run tell is what its record asks for.
use Rattle.std.specs.Prelude.{◌≡◌, ℕ, ◌≤◌, true, List, Some}
use Rattle.proof_runs.specs.Vocabulary.{Operation, Bounds, Step, AreBounds, is_actor, run, record_of, State, operation_of, progress_of}
use Rattle.chronicle.specs.Chronicled.{Chronicled, CanBegin, CanEnd, CanGo}

-- what is kept is the record of the run on these steps, with room for each of its slots and generations
pub record IsKeptOf (limits : Bounds) (steps : List Step) (kept : Chronicled) : Type 0 where
  pub past : kept.past ≡ record_of limits steps
  pub slots : kept.slots ≡ limits.slots
  pub generations : (run limits steps).generations ≤ kept.generations

-- what steps from the state tell may be told
pub record CanTell (state : State) (kept : Chronicled) : Type 0 where
  pub begins : (actor : ℕ) → is_actor state actor ≡ true → CanBegin kept actor state.begun
  pub goes : (actor : ℕ) (operation : Operation) → operation_of state actor ≡ Some operation → CanGo kept state.steps actor (progress_of state operation)
  pub ends : (actor : ℕ) (operation : Operation) → operation_of state actor ≡ Some operation → CanEnd kept actor operation.id

abbrev pub TellingsFit : Type 0
TellingsFit = (limits : Bounds) (steps : List Step) (kept : Chronicled) → AreBounds limits → IsKeptOf limits steps kept → CanTell (run limits steps) kept
