-- The end of a runner.
use Rattle.std.specs.Prelude.{◌≡◌, ℕ, ◌≤◌, List, Some, slice_get, sum_by, All, Result, Ok, Err}
use Rattle.step_machine.specs.declared.records.Record.{Record}
use Rattle.lock_runner.specs.Beneath.proof_runs.specs.Machines.{Taken, past_of, AreTaken}
use Rattle.lock_runner.specs.Beneath.machine_core.specs.Asking.{asked_all}
use Rattle.step_machine.specs.Records.{IsRecordOf, IsLegalRecord}
use Rattle.lock_runner.specs.ActorHistory.Answers.{AreAnswersOf, RunsJust}
use Rattle.lock_runner.specs.ActorHistory.Laws.{IsStepOf}
use Rattle.lock_runner.specs.declared.finishing.Unfinished.{Unfinished}
use Rattle.lock_runner.specs.declared.finishing.Unfinished.TheVariants.{Missing, Memory}
use Rattle.lock_runner.specs.Boards.{sweeps_in, GoesOn}
use Rattle.lock_runner.specs.Seats.{Room, Seated}

-- the actor's seat is among these
abbrev pub IsHere : ℕ → List Seated → Type 0
IsHere actor seats = (k : ℕ) × (seat : Seated) × (slice_get seats k ≡ Some seat) × (seat.actor ≡ actor)

-- the seat of each of the actors up to this number is, or that of one of them isn't
abbrev pub AreHere : ℕ → List Seated → Type 0
AreHere number seats = (actor : ℕ) → 1 ≤ actor → actor ≤ number → IsHere actor seats

abbrev pub IsMissing : ℕ → List Seated → Type 0
IsMissing number seats = (actor : ℕ) × (1 ≤ actor) × (actor ≤ number) × ¬ IsHere actor seats

-- how many steps of the sweep the seats have taken together
abbrev pub all_swept : List Seated → ℕ
all_swept seats = sum_by (λ seat. seat.sweeps) seats

-- The machine has the runner's sizes and goes on from all that its seats have seen; what each was answered are all ended
-- operations of its actor, which runs just what its seat does; its steps of the sweep are those of the seats, and none is of an actor without a seat.
pub record IsGathered (runner : Room) (seats : List Seated) (machine : Taken) : Type 0 where
  pub limits : machine.limits ≡ runner.limits
  pub sizes : (k : ℕ) (seat : Seated) → slice_get seats k ≡ Some seat → machine.limits ≡ seat.seen.limits
  pub steps : (k : ℕ) (seat : Seated) → slice_get seats k ≡ Some seat → GoesOn seat.seen.steps machine.steps
  pub answers : (k : ℕ) (seat : Seated) → slice_get seats k ≡ Some seat → AreAnswersOf seat.actor (past_of machine).events seat.answers
  pub running : (k : ℕ) (seat : Seated) → slice_get seats k ≡ Some seat → RunsJust seat.actor (past_of machine).events seat.running
  pub sweeps : sweeps_in machine ≡ all_swept seats
  pub others : (actor : ℕ) → ¬ IsHere actor seats → All (λ s. ¬ IsStepOf actor s) machine.steps

-- the machine that a record tells of
abbrev pub recorded : Record → Taken
recorded made = record { limits = made.limits; steps = asked_all made.steps.items }

-- The record is that of the machine, which took each of its steps, and its order is legal for its history; where the order found no memory the machine
-- comes back, and where a seat isn't there all that was handed in.
abbrev pub IsFinished : Room → List Seated → Result Record Unfinished → Type 0
IsFinished runner seats (Ok made) =
    AreHere runner.seats seats × IsRecordOf (recorded made) made × IsGathered runner seats (recorded made) × AreTaken made.limits (asked_all made.steps.items) × IsLegalRecord made
IsFinished runner seats (Err (Memory machine)) = AreHere runner.seats seats × IsGathered runner seats machine
IsFinished runner seats (Err (Missing back handed)) = IsMissing runner.seats seats × (back ≡ runner) × (handed.items ≡ seats)
