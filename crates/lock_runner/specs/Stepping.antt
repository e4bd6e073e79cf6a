-- What one step makes of a seat.
use Rattle.std.specs.Prelude.{◌≡◌, ℕ, ◌+◌, ◌<◌, ◌≤◌, Bool, true, false, MatchOption, [], ◌∷◌, ◌++◌, Some, None, Result, Ok, Err}
use Rattle.lock_runner.specs.Vocabulary.{Kind, Refusal, ActorBusy, Idle, Spent, Call, Step, Swept, Outcome, next, denial_of}
use Rattle.lock_runner.specs.Beneath.machine_model.specs.declared.steps.Step.TheVariants as step
use Rattle.lock_runner.specs.Beneath.machine_model.specs.declared.steps.Outcome.TheVariants as outcome
use Rattle.lock_runner.specs.Beneath.proof_runs.specs.Machines.{Taken, state_of, with_step}
use Rattle.lock_runner.specs.declared.accounts.Answer.{Answer}
use Rattle.lock_runner.specs.declared.accounts.Running.{Running}
use Rattle.lock_runner.specs.declared.seats.Stop.{Stop}
use Rattle.lock_runner.specs.declared.seats.Stop.TheVariants.{Denied, Memory, Ahead}
use Rattle.lock_runner.specs.Boards.{GoesOn, HasFollowed}
use Rattle.lock_runner.specs.Seats.{Seated, IsIdle}
use Rattle.lock_runner.specs.Holds.{events_in}

-- the seat is the same one, and its runner's machine has gone on
pub record HasGoneOn (before after : Seated) : Type 0 where
  pub runner : after.runner ≡ before.runner
  pub actor : after.actor ≡ before.actor
  pub heard : after.heard ≡ before.heard
  pub limits : after.seen.limits ≡ before.seen.limits
  pub steps : GoesOn before.seen.steps after.seen.steps

-- nothing was answered or swept
pub record IsUntold (before after : Seated) : Type 0 where
  pub on : HasGoneOn before after
  pub answers : after.answers ≡ before.answers
  pub sweeps : after.sweeps ≡ before.sweeps

-- no step of the actor's operations was taken
abbrev pub HasTakenNone : Seated → Seated → Type 0
HasTakenNone before after = HasFollowed before.actor before.seen after.seen

-- this one was taken last, with this outcome, and before it none of the actor's operations
pub record HasTaken (s : Step) (o : Outcome) (before after : Seated) : Type 0 where
  pub board : Taken
  pub followed : HasFollowed before.actor before.seen board
  pub last : after.seen ≡ with_step board s
  pub taken : next (state_of board) s ≡ Ok (o, state_of after.seen)

-- the machine denies the step, as the seat sees it now
abbrev pub IsDenied : Seated → Step → Refusal → Type 0
IsDenied seat s refusal = next (state_of seat.seen) s ≡ Err refusal

-- ---- a begin

-- the place is behind all events that the seat has seen, and of which it has heard
abbrev pub IsBehind : ℕ → Seated → Type 0
IsBehind place seat = (events_in seat.seen ≤ place) × (seat.heard ≤ place)

-- the actor, which ran nothing, runs this call now, which began behind all that its seat had seen and heard of
abbrev pub RunsAs : Running → Call → Seated → Seated → Type 0
RunsAs operation call before after = IsIdle before × (after.running ≡ Some operation) × (operation.call ≡ call) × IsBehind operation.began before

abbrev pub Runs : Call → Seated → Seated → Type 0
Runs call before after = (operation : Running) × RunsAs operation call before after

-- why nothing began: while an operation runs the seat is busy; else there were fewer events than it had heard of, before all
-- else the machine denied it, or memory was wanting
abbrev pub IsNotBegun : Stop → Call → Seated → Type 0
IsNotBegun Ahead call seat = IsIdle seat × (events_in seat.seen < seat.heard)
IsNotBegun Memory call seat = IsIdle seat
IsNotBegun (Denied refusal) call seat =
    IsDenied seat (step.Begin seat.actor call None) refusal × MatchOption seat.running (seat.heard ≤ events_in seat.seen) (λ operation. refusal ≡ ActorBusy)

abbrev pub Begins : Result (Unit {0}) Stop → Seated → Call → Seated → Type 0
Begins (Ok done) before call after =
    IsUntold before after × (operation : Running) × RunsAs operation call before after
    × HasTaken (step.Begin before.actor call None) (outcome.Began operation.id) before after
Begins (Err stop) before call after = IsUntold before after × (after.running ≡ before.running) × HasTakenNone before after × IsNotBegun stop call after

-- ---- a step of the operation

-- the operation was answered
pub record IsAnswered (operation : Running) (before after : Seated) : Type 0 where
  pub on : HasGoneOn before after
  pub sweeps : after.sweeps ≡ before.sweeps
  pub ran : before.running ≡ Some operation
  pub idle : IsIdle after
  pub answer : Answer
  pub last : after.answers ≡ before.answers ++ answer ∷ []
  pub id : answer.id ≡ operation.id
  pub call : answer.call ≡ operation.call
  pub began : answer.began ≡ operation.began

-- why no step was taken: without an operation the seat is idle, else the machine has taken all its steps, or memory was wanting
abbrev pub IsNotTaken : Stop → Seated → Type 0
IsNotTaken Ahead seat = ⊥
IsNotTaken Memory seat = ¬ IsIdle seat
IsNotTaken (Denied refusal) seat = IsDenied seat (step.Go seat.actor) refusal × MatchOption seat.running (refusal ≡ Idle) (λ operation. refusal ≡ Spent)

abbrev pub Goes : Result Bool Stop → Seated → Seated → Type 0
Goes (Ok true) before after =
    (operation : Running) × (ended : IsAnswered operation before after)
    × HasTaken (step.Go before.actor) (outcome.Ended operation.id ended.answer.reply) before after
Goes (Ok false) before after =
    IsUntold before after × (after.running ≡ before.running) × ¬ IsIdle before
    × (kind : Kind) × HasTaken (step.Go before.actor) (outcome.Went kind) before after
Goes (Err stop) before after = IsUntold before after × (after.running ≡ before.running) × HasTakenNone before after × IsNotTaken stop after

-- ---- a step of the sweep

-- the machine took a step of the sweep last
pub record IsSwept (swept : Swept) (before after : Seated) : Type 0 where
  pub sweeps : after.sweeps ≡ before.sweeps + 1
  pub took : HasTaken step.Sweep (outcome.Swept swept) before after

-- why none was taken: the machine's denial, or for a step that isn't denied want of memory
abbrev pub IsNotSwept : Stop → Seated → Type 0
IsNotSwept Ahead seat = ⊥
IsNotSwept Memory seat = denial_of (state_of seat.seen) step.Sweep ≡ None
IsNotSwept (Denied refusal) seat = IsDenied seat step.Sweep refusal

abbrev pub SweepsOnce : Result Swept Stop → Seated → Seated → Type 0
SweepsOnce (Ok swept) before after = IsSwept swept before after
SweepsOnce (Err stop) before after = (after.sweeps ≡ before.sweeps) × HasTakenNone before after × IsNotSwept stop after

abbrev pub Sweeps : Result Swept Stop → Seated → Seated → Type 0
Sweeps result before after = HasGoneOn before after × (after.answers ≡ before.answers) × (after.running ≡ before.running) × SweepsOnce result before after
