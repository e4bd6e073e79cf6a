-- A run as states over time: what many-step facts are stated on. State t is the state before step t.
use Rattle.std.proofs.Common.{◌≡◌, ℕ, zero, suc, ◌≤◌, ◌<◌, List, [], ◌∷◌, length, refl, ap, subst, sym, ◌∙◌, arith}
use Rattle.machine_model.specs.declared.steps.Bounds.{Bounds}
use Rattle.machine_model.specs.declared.steps.Outcome.{Outcome}
use Rattle.machine_model.specs.declared.steps.Step.{Step}
use Rattle.machine_model.specs.States.{State, first_state}
use Rattle.machine_model.specs.Machine.{AreBounds, next_state, run_from, run, taken_steps}
use Rattle.machine_model.specs.Moves.{Moves}
use Rattle.machine_model.proofs.Frames.{steps_counted}
use Rattle.machine_model.proofs.Taken.{run-taken}
use Rattle.machine_model.specs.Records.{Record, first_record}
use Rattle.machine_model.specs.Times.{Turn, turns, IsRun, states_from, states_of, records_from, records_of, last_of}
use Rattle.machine_model.proofs.Noted.{notes_along, recorded_of, turn_of}
pub use Rattle.machine_model.proofs.Noted.{states_from-zero}

-- what holds at first, and is kept by each turn, holds at each time of a run; what was shown before of that time can be used
pub along_run : {limits : Bounds} {states : ℕ → State} {last : ℕ} → IsRun limits states last → (P : ℕ → Type 0) → P zero →
    ((t : ℕ) → t < last → Turn (states t) (states (suc t)) → P t → P (suc t)) → (t : ℕ) → t ≤ last → P t
along_run {limits} {states} {last} r P first keeps zero h = first
along_run {limits} {states} {last} r P first keeps (suc t) h = keeps t h (r.turn t h) (along_run r P first keeps t (omega arith))

-- an invariant: what holds of the first state and is kept by each move
pub at_each_time : {limits : Bounds} {states : ℕ → State} {last : ℕ} → IsRun limits states last → (P : State → Type 0) → P (first_state limits) →
    ((before : State) (s : Step) (o : Outcome) (after : State) → Moves before s o after → P before → P after) → (t : ℕ) → t ≤ last → P (states t)
at_each_time {limits} {states} {last} r P first keeps =
    along_run r (λ t. P (states t)) (subst P (sym r.first) first) (λ t h turn p. by_turn P (states t) (states (suc t)) keeps turn p)
  where
    by_turn : (P : State → Type 0) (before after : State) → ((before : State) (s : Step) (o : Outcome) (after : State) → Moves before s o after → P before → P after) →
        Turn before after → P before → P after
    by_turn P before after keeps (turns s o m) p = keeps before s o after m p

-- the number of a step is its time
pub steps_at : {limits : Bounds} {states : ℕ → State} {last : ℕ} → IsRun limits states last → (t : ℕ) → t ≤ last → (states t).steps ≡ t
unfolding first_state
steps_at {limits} {states} {last} r =
    along_run r (λ t. (states t).steps ≡ t) (ap (λ (state : State). state.steps) r.first) (λ t h turn e. by_turn (states t) (states (suc t)) t e turn)
  where
    by_turn : (before after : State) (t : ℕ) → before.steps ≡ t → Turn before after → after.steps ≡ suc t
    by_turn before after t e (turns s o m) = omega (arith, steps_counted before s o after m, e)

-- ---- each list of steps is such a run

-- the last of the states is that of the run
last_from : (state : State) (steps : List Step) → states_from state steps (length steps) ≡ run_from state steps
unfolding states_from run_from
last_from state [] = refl
last_from state (s ∷ steps) = last_from (next_state state s) steps

pub records_from-zero : (state : State) (past : Record) (steps : List Step) → records_from state past steps zero ≡ past
unfolding records_from
records_from-zero state past [] = refl
records_from-zero state past (s ∷ steps) = refl

-- each list of steps is a run, up to its denied ones
abbrev pub run_is : (limits : Bounds) (steps : List Step) → AreBounds limits → IsRun limits (states_of limits steps) (last_of limits steps)
run_is limits steps ok = record {
  limits_ok = ok;
  first = states_from-zero (first_state limits) (taken_steps limits steps);
  turn = λ t h. turn_of (notes_along (first_state limits) (first_record limits) steps t h);
  records = records_of limits steps;
  nothing_recorded = records_from-zero (first_state limits) (first_record limits) (taken_steps limits steps);
  recorded = λ t h. recorded_of (notes_along (first_state limits) (first_record limits) steps t h);
}

-- and ends in the same state
pub run_ends : (limits : Bounds) (steps : List Step) → states_of limits steps (last_of limits steps) ≡ run limits steps
run_ends limits steps = last_from (first_state limits) (taken_steps limits steps) ∙ run-taken (first_state limits) steps
