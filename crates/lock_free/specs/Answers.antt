-- What a history tells of one actor: what its calls were answered, in its own order.
use Rattle.std.specs.Prelude.{◌≡◌, ℕ, ◌==◌, List, [], ◌∷◌, ◌++◌, Option, Some, None, if◌then◌else◌}
use Rattle.history.specs.declared.calls.Call.{Call}
use Rattle.history.specs.declared.events.Event.{Event}
use Rattle.history.specs.declared.events.Event.TheVariants.{Begin, End}
use Rattle.history.specs.declared.replies.Reply.{Reply}
use Rattle.machine_model.specs.declared.actions.Action.TheVariants as act
use Rattle.machine_model.specs.declared.operations.Operation.{Operation}
use Rattle.machine_model.specs.declared.steps.Step.TheVariants as step
use Rattle.machine_model.specs.Machine.{AreBounds}
use Rattle.machine_model.specs.Operations.{action_of}
use Rattle.lock_free.specs.declared.accounts.Account.{Account}
use Rattle.lock_free.specs.declared.rules.View.{View}
use Rattle.lock_free.specs.declared.sizes.Sizes.{Sizes}
use Rattle.lock_free.specs.Accounts.{bounds_for, state_of, running, gone_on, HasWaited}
use Rattle.lock_free.specs.Beginning.{taking}
use Rattle.lock_free.specs.Telling.{history_of, GoesOn}

-- an operation that runs: its id, its call, and the handle that it opens
pub record Begun : Type 0 where
  pub id : ℕ
  pub call : Call
  pub opens : Option ℕ

-- one that has ended, with its reply
pub record Answer : Type 0 where
  pub of : Begun
  pub reply : Reply

-- what an actor was answered, and what it runs
pub record Talk : Type 0 where
  pub answers : List Answer
  pub runs : Option Begun

abbrev pub silent : Talk
silent = record { answers = []; runs = None }

-- an end is told to the actor that runs the operation
abbrev pub after_end : Talk → ℕ → Reply → Option Begun → Talk
after_end talk id reply None = talk
after_end talk id reply (Some it) = if it.id == id then record { answers = talk.answers ++ record { of = it; reply = reply } ∷ []; runs = None } else talk

abbrev pub after_event : ℕ → Talk → Event → Talk
after_event actor talk (Begin id owner call opens) = if owner == actor then record talk { runs = Some (record { id = id; call = call; opens = opens }) } else talk
after_event actor talk (End id reply) = after_end talk id reply talk.runs

unfoldable pub talk_from : ℕ → Talk → List Event → Talk
talk_from actor talk [] = talk
talk_from actor talk (event ∷ events) = talk_from actor (after_event actor talk event) events

abbrev pub talk_of : ℕ → List Event → Talk
talk_of actor history = talk_from actor silent history

-- what a seat has seen of an actor
abbrev pub talk_at : View → ℕ → Talk
talk_at v actor = talk_of actor (history_of v.sizes v.account)

abbrev pub answers_of : ℕ → Sizes → Account → List Answer
answers_of actor sizes account = (talk_of actor (history_of sizes account)).answers

-- ---- laws

-- What an actor was answered grows alone.
abbrev pub AnswersGoOn : Type 0
AnswersGoOn =
    (actor : ℕ) (sizes : Sizes) (before after : Account) → AreBounds (bounds_for sizes before.steps) → GoesOn before.steps after.steps →
    GoesOn (answers_of actor sizes before) (answers_of actor sizes after)

-- What others do tells it nothing: all that it was ever answered is told in the account at its own last step.
abbrev pub OthersTellNothing : Type 0
OthersTellNothing =
    (actor : ℕ) (sizes : Sizes) (before after : Account) → AreBounds (bounds_for sizes before.steps) → HasWaited actor before after → answers_of actor sizes after ≡ answers_of actor sizes before

-- Nor does a begin.
abbrev pub BeginsTellNothing : Type 0
BeginsTellNothing =
    (actor : ℕ) (sizes : Sizes) (account : Account) (other : ℕ) (call : Call) (number : Option ℕ) → AreBounds (bounds_for sizes account.steps) →
    answers_of actor sizes (taking (step.Begin other call number) account) ≡ answers_of actor sizes account

-- the answer to an operation
abbrev pub answer_to : Operation → Reply → Answer
answer_to o reply = record { of = record { id = o.id; call = o.call; opens = o.opens }; reply = reply }

-- From when its operation runs to when that ends it is answered once: its call, with the reply by which it ends.
abbrev pub EndsAreTold : Type 0
EndsAreTold =
    (actor : ℕ) (sizes : Sizes) (before after : Account) (o p : Operation) (reply : Reply) → AreBounds (bounds_for sizes before.steps) → running sizes before actor o →
    GoesOn before.steps after.steps →
    running sizes after actor p → p.id ≡ o.id → action_of (state_of sizes after) p ≡ act.End reply →
    answers_of actor sizes (gone_on actor after) ≡ answers_of actor sizes before ++ answer_to o reply ∷ []
