-- An actor's answers and what it runs, as the history has them.
use Rattle.std.specs.Prelude.{◌≡◌, ℕ, ◌<◌, List, Option, Some, slice_get}
use Rattle.lock_runner.specs.Vocabulary.{Reply, Event, BeginsAt, EndsAt, HasEnded, IsRunning}
use Rattle.lock_runner.specs.declared.accounts.Answer.{Answer}
use Rattle.lock_runner.specs.declared.accounts.Running.{Running}

-- the operation is one of this actor's
abbrev pub IsOperationOf : List Event → ℕ → ℕ → Type 0
IsOperationOf history actor id = (place : ℕ) × (operation : _) × BeginsAt history place id operation × (operation.actor ≡ actor)

-- the actor's operation begins and ends in the history as the answer says
pub record IsToldIn (history : List Event) (actor : ℕ) (answer : Answer) : Type 0 where
  pub opens : Option ℕ
  pub begin : BeginsAt history answer.began answer.id record { actor = actor; call = answer.call; opens = opens }
  pub end : EndsAt history answer.ended answer.id answer.reply

-- the answers are all ended operations of the actor, in the order of their ends
pub record AreAnswersOf (actor : ℕ) (history : List Event) (answers : List Answer) : Type 0 where
  pub each : (k : ℕ) (answer : Answer) → slice_get answers k ≡ Some answer → IsToldIn history actor answer
  pub all : (place id : ℕ) (reply : Reply) → EndsAt history place id reply → IsOperationOf history actor id →
      (k : ℕ) × (answer : Answer) × (slice_get answers k ≡ Some answer) × (answer.ended ≡ place)
  pub rising : (j k : ℕ) (earlier later : Answer) → j < k → slice_get answers j ≡ Some earlier → slice_get answers k ≡ Some later →
      earlier.ended < later.ended

-- no operation of the actor but this one has begun and not ended
abbrev pub RunsNoOther : ℕ → List Event → Option Running → Type 0
RunsNoOther actor history running = (id : ℕ) → IsRunning history id actor → (operation : Running) × (running ≡ Some operation) × (operation.id ≡ id)

-- the actor's operation begins in the history as this says, and doesn't end
pub record IsBegunIn (history : List Event) (actor : ℕ) (operation : Running) : Type 0 where
  pub opens : Option ℕ
  pub begin : BeginsAt history operation.began operation.id record { actor = actor; call = operation.call; opens = opens }
  pub unended : (reply : Reply) → ¬ HasEnded history operation.id reply

-- the actor runs this operation and no other, or none
pub record RunsJust (actor : ℕ) (history : List Event) (running : Option Running) : Type 0 where
  pub own : (operation : Running) → running ≡ Some operation → IsBegunIn history actor operation
  pub no_other : RunsNoOther actor history running
