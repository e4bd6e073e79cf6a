-- What a history tells of one actor, event by event.
pub mod Answers
pub mod Laws
use Rattle.std.specs.Prelude.{ℕ, ◌+◌, ◌==◌, List, [], ◌∷◌, ◌++◌, Option, Some, None, if◌then◌else◌}
use Rattle.lock_runner.specs.Vocabulary.{Call, Reply, Event, End}
use Rattle.history.specs.declared.events.Event.TheVariants.{Begin}
use Rattle.lock_runner.specs.declared.accounts.Answer.{Answer}
use Rattle.lock_runner.specs.declared.accounts.Running.{Running}

-- an actor's account: the answers that it was given, in order of time, and the operation that it runs
pub record Account : Type 0 where
  pub answers : List Answer
  pub running : Option Running

-- at first it has neither
abbrev pub empty_account : Account
empty_account = record { answers = []; running = None }

-- the operation that a begin brings in
abbrev pub begun_at : ℕ → ℕ → Call → Running
begun_at place id call = record { id = id; call = call; began = place }

-- what the end of an operation answers
abbrev pub answered_at : Running → ℕ → Reply → Answer
answered_at operation place answer =
    record { id = operation.id; call = operation.call; reply = answer; began = operation.began; ended = place }

-- an end is told to the actor whose operation it is
abbrev pub account_ended : Account → ℕ → ℕ → Reply → Option Running → Account
account_ended account place id answer None = account
account_ended account place id answer (Some operation) =
    if operation.id == id then record { answers = account.answers ++ answered_at operation place answer ∷ []; running = None } else account

-- the actor's account after the event at this place
abbrev pub account_after : ℕ → ℕ → Account → Event → Account
account_after actor place account (Begin id owner call opens) =
    if owner == actor then record account { running = Some (begun_at place id call) } else account
account_after actor place account (End id answer) = account_ended account place id answer account.running

-- the actor's account after these events, the first of which has this place
unfoldable pub account_from : ℕ → ℕ → Account → List Event → Account
account_from actor place account [] = account
account_from actor place account (event ∷ events) = account_from actor (place + 1) (account_after actor place account event) events

-- the actor's account after this history
abbrev pub account_of : ℕ → List Event → Account
account_of actor history = account_from actor 0 empty_account history
