-- A whole call: what its seat was answered, and where it stands in the history.
use Rattle.history.specs.declared.calls.Call.{Call}
use Rattle.history.specs.declared.calls.Call.TheVariants.{Close}
use Rattle.history.specs.declared.events.Event.{Event}
use Rattle.history.specs.declared.events.Event.TheVariants as event
use Rattle.history.specs.declared.replies.Reply.{Reply}
use Rattle.history.specs.declared.replies.Reply.TheVariants as reply
use Rattle.std.specs.Prelude.{◌≡◌, ◌≢◌, ◌++◌, ◌∷◌, [], ℕ, All, List, Option, None, Ok}
use Rattle.machine_model.specs.declared.actions.Action.TheVariants as act
use Rattle.lock_free.specs.declared.reading.Way.{Way}
use Rattle.lock_free.specs.declared.rules.View.{View}
use Rattle.lock_free.specs.Answers.{Answer, answers_of}
use Rattle.lock_free.specs.Calling.{HasCalled, IsCancelled}
use Rattle.lock_free.specs.Closing.{HasClosedIt}
use Rattle.lock_free.specs.Loading.{IsAt, IsSound}
use Rattle.lock_free.specs.RunningOn.{MayAnswer, RunsOn}
use Rattle.lock_free.specs.SeatWords.{HasEnded}
use Rattle.lock_free.specs.Telling.{history_of, GoesOn}

-- it is the same seat, later
pub record Continues (v w : View) : Type 0 where
  pub sizes : w.sizes ≡ v.sizes
  pub actor : w.actor ≡ v.actor
  pub goes_on : GoesOn v.account.steps w.account.steps

-- all that the seat was answered so far, in its own order
abbrev pub answers_at : View → List Answer
answers_at v = answers_of v.actor v.sizes v.account

-- it is no begin of this actor's, nor the end of this operation
abbrev pub IsOfOthers : ℕ → ℕ → Event → Type 0
IsOfOthers actor id (event.Begin other owner call opens) = owner ≢ actor
IsOfOthers actor id (event.End other answer) = other ≢ id

-- The call has begun and ended since then, and was answered so.
pub record HasAnswered (before : View) (call : Call) (opens : Option ℕ) (answer : Reply) (after : View) : Type 0 where
  pub continues : Continues before after
  pub id : ℕ
  -- the seat was answered this, and nothing else
  pub answers : answers_at after ≡ answers_at before ++ record { of = record { id = id; call = call; opens = opens }; reply = answer } ∷ []
  -- the call began after all that the seat had seen, and between its begin and its end stands what others did meanwhile
  pub earlier : List Event
  pub meanwhile : List Event
  pub since : GoesOn (history_of before.sizes before.account) earlier
  pub is : history_of after.sizes after.account ≡ earlier ++ event.Begin id before.actor call opens ∷ meanwhile ++ event.End id answer ∷ []
  pub others : All (IsOfOthers before.actor id) meanwhile

-- A call that has begun, and whose operation has come to its end with this answer, is answered so.
abbrev pub CallsAreAnswered : Type 0
CallsAreAnswered =
    (words : ℕ) (before begun late after : View) (call : Call) (way : Way) (answer : Reply) → IsSound words before → HasCalled before call (Ok way) begun → IsSound words begun →
    RunsOn begun late → IsAt late (act.End answer) → HasEnded late answer after → HasAnswered before call before.opens answer after

-- So is one whose operation has given up.
abbrev pub RefusalsAreAnswered : Type 0
RefusalsAreAnswered =
    (words : ℕ) (before begun late after : View) (call : Call) (way : Way) (answer : Reply) → IsSound words before → HasCalled before call (Ok way) begun → IsSound words begun →
    RunsOn begun late → MayAnswer late answer → IsCancelled late after → HasAnswered before call before.opens answer after

-- So is a handle that was closed.
abbrev pub ClosesAreAnswered : Type 0
ClosesAreAnswered = (words : ℕ) (before after : View) (handle : ℕ) → IsSound words before → HasClosedIt before handle after → HasAnswered before (Close handle) None reply.Closed after
