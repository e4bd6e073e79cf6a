-- What contracts see of a runner and of a seat.
use Rattle.std.specs.Prelude.{◌≡◌, ℕ, ◌≤◌, List, Option, None, All, sum_by}
use Rattle.lock_runner.specs.Vocabulary.{Limits}
use Rattle.atomic_table.specs.Seated.{TableId}
use Rattle.lock_runner.specs.Beneath.proof_runs.specs.Machines.{Taken, fresh, state_of}
use Rattle.lock_runner.specs.declared.accounts.Answer.{Answer}
use Rattle.lock_runner.specs.declared.accounts.Running.{Running}
use Rattle.gate.specs.Logs.{calls_of}
use Rattle.lock_runner.specs.Asks.{Hold, Pass, swept}
use Rattle.lock_runner.specs.Boards.{account_in}

-- a runner: which one it is, the sizes of its machine, and how many seats it has
pub record Room : Type 0 where
  pub id : TableId
  pub limits : Limits
  pub seats : ℕ

-- a seat: whose it is, and what its calls were answered
pub record Seated : Type 0 where
  -- the runner that it belongs to
  pub runner : TableId
  pub actor : ℕ
  -- the runner's machine as the seat saw it last
  pub seen : Taken
  -- all holds of its gate up to then
  pub log : List Hold
  pub answers : List Answer
  pub running : Option Running
  -- how many steps of the sweep it has taken
  pub sweeps : ℕ
  -- of how many events it has heard
  pub heard : ℕ

-- the seat is one of this runner's
abbrev pub IsSeatOf : Room → Seated → Type 0
IsSeatOf runner seat = seat.runner ≡ runner.id

-- each of these is
abbrev pub AreSeatsOf : Room → List Seated → Type 0
AreSeatsOf runner seats = All (λ seat. IsSeatOf runner seat) seats

-- its actor runs nothing
abbrev pub IsIdle : Seated → Type 0
IsIdle seat = seat.running ≡ None

-- ---- what a seat keeps

-- the seat at the gate: the machine had no steps first
abbrev pub pass_of : Seated → Pass
pass_of seat = record {
  gate = seat.runner;
  number = seat.actor;
  seen = record { first = record { machine = fresh seat.seen.limits }; object = record { machine = seat.seen }; log = seat.log };
}

-- the machine that the seat saw last
abbrev pub seen_in : Pass → Taken
seen_in pass = pass.seen.object.machine

abbrev pub seated : Pass → List Answer → Option Running → ℕ → ℕ → Seated
seated pass answers running sweeps heard = record {
  runner = pass.gate;
  actor = pass.number;
  seen = seen_in pass;
  log = pass.seen.log;
  answers = answers;
  running = running;
  sweeps = sweeps;
  heard = heard;
}

-- how many steps of the sweep this seat has taken, as the log tells
abbrev pub sweeps_of : Pass → ℕ
sweeps_of pass = sum_by swept (calls_of pass.number pass.seen.log)

-- the seat has what the machine that it saw last tells of its actor, and has counted its steps of the sweep
pub record IsTold (seat : Seated) : Type 0 where
  pub told : account_in seat.actor seat.seen ≡ record { answers = seat.answers; running = seat.running }
  pub counted : seat.sweeps ≡ sweeps_of (pass_of seat)

-- it has so, and its actor is one of the machine's, which had no steps first
pub record IsSeated (pass : Pass) (answers : List Answer) (running : Option Running) (sweeps : ℕ) : Type 0 where
  pub first : pass.seen.first.machine ≡ fresh (seen_in pass).limits
  pub counted : sweeps ≡ sweeps_of pass
  pub low : 1 ≤ pass.number
  pub high : pass.number ≤ (seen_in pass).limits.actors
  pub told : account_in pass.number (seen_in pass) ≡ record { answers = answers; running = running }
  pub bounded : sweeps ≤ (state_of (seen_in pass)).steps
