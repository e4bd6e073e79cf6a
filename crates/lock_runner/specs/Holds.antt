-- One hold of the gate.
use Rattle.std.specs.Prelude.{◌≡◌, ℕ, ◌<◌, ◌≤◌, length, None, Result, Ok, Err}
use Rattle.lock_runner.specs.Vocabulary.{Step, Outcome, next, denial_of}
use Rattle.lock_runner.specs.Beneath.proof_runs.specs.Machines.{Taken, past_of, state_of, with_step}
use Rattle.lock_runner.specs.declared.seats.Stop.{Stop}
use Rattle.lock_runner.specs.declared.seats.Stop.TheVariants.{Denied, Memory, Ahead}
use Rattle.lock_runner.specs.declared.asks.Shared.{Shared}
use Rattle.lock_runner.specs.declared.asks.Ask.{Ask}
use Rattle.lock_runner.specs.Asks.{Told, step_of}

-- how many events the machine's history has
abbrev pub events_in : Taken → ℕ
events_in board = length (past_of board).events

-- A step was taken, and was told with the number of events before it; or the machine is as it was, and it is told why: for
-- fewer events than were heard of before all else, then for what denies the step, then for want of memory.
abbrev pub Worked : Result (ℕ × Outcome) Stop → Taken → Step → ℕ → Taken → Type 0
Worked (Ok done) before s heard after =
    (heard ≤ done.0) × (done.0 ≡ events_in before) × (after ≡ with_step before s) × (next (state_of before) s ≡ Ok (done.1, state_of after))
Worked (Err Ahead) before s heard after = (after ≡ before) × (events_in before < heard)
Worked (Err Memory) before s heard after = (after ≡ before) × (heard ≤ events_in before) × (denial_of (state_of before) s ≡ None)
Worked (Err (Denied refusal)) before s heard after = (after ≡ before) × (heard ≤ events_in before) × (next (state_of before) s ≡ Err refusal)

-- what the machine behind the gate may answer a seat
abbrev pub Answers : ℕ → Shared → Ask → Told → Shared → Type 0
Answers seat before asked answer after = Worked answer before.machine (step_of seat asked.work) asked.heard after.machine
