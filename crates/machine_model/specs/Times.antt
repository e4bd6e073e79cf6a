-- A run as states over time, and with what is recorded of it: what many-step facts are stated on. State t is the state before step t.
use Rattle.std.specs.Prelude.{◌≡◌, ℕ, zero, suc, ◌<◌, List, [], ◌∷◌, length}
use Rattle.machine_model.specs.declared.steps.Bounds.{Bounds}
use Rattle.machine_model.specs.declared.steps.Outcome.{Outcome}
use Rattle.machine_model.specs.declared.steps.Step.{Step}
use Rattle.machine_model.specs.States.{State, first_state}
use Rattle.machine_model.specs.Machine.{AreBounds, next_state, taken_steps}
use Rattle.machine_model.specs.Moves.{Moves}
use Rattle.machine_model.specs.Records.{Record, first_record, next_record, noted}
use Rattle.machine_model.specs.Tellings.{told_in}

-- a step that is taken leads from one state to the next
pub data Turn (before after : State) : Type 0 where
  turns : (s : Step) (o : Outcome) → Moves before s o after → Turn before after

-- what is recorded after it
abbrev pub noted_turn : {before after : State} → Turn before after → Record → Record
noted_turn {before} (turns s o m) past = noted past before.steps (told_in before s)

-- the states of a run of so many steps, each of them taken, and what is recorded of it
pub record IsRun (limits : Bounds) (states : ℕ → State) (last : ℕ) : Type 0 where
  pub limits_ok : AreBounds limits
  pub first : states zero ≡ first_state limits
  pub turn : (t : ℕ) → t < last → Turn (states t) (states (suc t))
  -- what is recorded before each step
  pub records : ℕ → Record
  pub nothing_recorded : records zero ≡ first_record limits
  pub recorded : (t : ℕ) (h : t < last) → records (suc t) ≡ noted_turn (turn t h) (records t)

-- the states after more and more of these steps
unfoldable pub states_from : State → List Step → ℕ → State
states_from state [] t = state
states_from state (s ∷ steps) zero = state
states_from state (s ∷ steps) (suc t) = states_from (next_state state s) steps t

-- the state before step t of those steps of the list that are taken
abbrev pub states_of : Bounds → List Step → ℕ → State
states_of limits steps = states_from (first_state limits) (taken_steps limits steps)

-- what is recorded after more and more of these steps
unfoldable pub records_from : State → Record → List Step → ℕ → Record
records_from state past [] t = past
records_from state past (s ∷ steps) zero = past
records_from state past (s ∷ steps) (suc t) = records_from (next_state state s) (next_record state past s) steps t

-- what is recorded before step t of those that are taken
abbrev pub records_of : Bounds → List Step → ℕ → Record
records_of limits steps t = records_from (first_state limits) (first_record limits) (taken_steps limits steps) t

-- how many of them are taken
abbrev pub last_of : Bounds → List Step → ℕ
last_of limits steps = length (taken_steps limits steps)
