-- A call on a key: what a whole try of it comes to, and what all of them do.
use Rattle.std.specs.Prelude.{◌≡◌, ℕ, List, Option, Some, None, Result, Ok, Err}
use Rattle.history.specs.declared.calls.Call.{Call}
use Rattle.history.specs.declared.calls.Call.TheVariants.{Get, Put, PutIfAbsent, Replace, ReplaceIf, Remove, RemoveIf, Clear, Snapshot, Freeze}
use Rattle.history.specs.declared.replies.Reply.{Reply}
use Rattle.history.specs.declared.replies.Reply.TheVariants as reply
use Rattle.trie_words.specs.declared.entries.Entry.{Entry}
use Rattle.machine_model.specs.Beneath.slot_arena.specs.declared.refs.Ref.{Ref}
use Rattle.machine_model.specs.declared.lines.Line.TheVariants as line
use Rattle.machine_model.specs.Calls.{changed_reply}
use Rattle.machine_model.specs.Lines.{new_try}
use Rattle.lock_free.specs.declared.descending.Update.{Update}
use Rattle.lock_free.specs.declared.attempts.Attempt.{Attempt}
use Rattle.lock_free.specs.declared.attempts.Attempt.TheVariants as attempt
use Rattle.lock_free.specs.declared.leaving.Swapping.{Swapping}
use Rattle.lock_free.specs.declared.parking.Came.TheVariants as came
use Rattle.lock_free.specs.declared.parking.Parked.TheVariants as parked
use Rattle.lock_free.specs.declared.reading.Given.{Given}
use Rattle.lock_free.specs.declared.rules.View.{View}
use Rattle.lock_free.specs.declared.seeking.Sought.{Sought}
use Rattle.lock_free.specs.declared.seeking.Sought.TheVariants as sought
use Rattle.lock_free.specs.declared.swapping.Swapped.{Swapped}
use Rattle.lock_free.specs.declared.swapping.Swapped.TheVariants.{Commits, Fails, Misses}
use Rattle.lock_free.specs.declared.tasks.Task.{Task}
use Rattle.lock_free.specs.Climbs.{IsClimbing}
use Rattle.lock_free.specs.Descending.{IsPlace, IsTask, KnowsUpdate, line_updated}
use Rattle.lock_free.specs.Holding.{IsOn}
use Rattle.lock_free.specs.Parking.{HasRunTo, IsCome}
use Rattle.lock_free.specs.RunningOn.{MayAnswer, RunsOn}
use Rattle.lock_free.specs.SeatWords.{HasEnded}

-- the call is one on a key
abbrev pub IsKeyed : Call → Type 0
IsKeyed (Get h k) = Unit {0}
IsKeyed (Put h k v) = Unit {0}
IsKeyed (PutIfAbsent h k v) = Unit {0}
IsKeyed (Replace h k v) = Unit {0}
IsKeyed (ReplaceIf h k a b) = Unit {0}
IsKeyed (Remove h k) = Unit {0}
IsKeyed (RemoveIf h k v) = Unit {0}
IsKeyed call = ⊥

-- or one that copies the map or makes it empty: so something of it can be under way
abbrev pub IsTried : Call → Type 0
IsTried (Clear h) = Unit {0}
IsTried (Snapshot h) = Unit {0}
IsTried (Freeze h) = Unit {0}
IsTried call = IsKeyed call

-- ---- a change

-- it is to make this change of the main node that READ gave at the end of its path
pub record IsToChange (v : View) (slots : List ℕ) (given : Given) (change : Update) : Type 0 where
  pub path : List Ref
  pub main : Ref
  pub other : Ref
  pub on : IsOn v (line_updated path main other change)
  pub place : IsPlace v slots given path main
  pub knows : KnowsUpdate v main other change

-- it is to climb from the end of its path, where it has left a tomb of this single, and to answer that its key had this value
pub record IsToClimb (v : View) (slots : List ℕ) (hash : ℕ) (single : Entry) (former : Option ℕ) : Type 0 where
  pub climbing : IsClimbing v slots hash single
  pub its : climbing.climb.former ≡ former

-- what a SWAP makes of it; no slot was had where there was none
abbrev pub attempted : Option Swapped → Call → Option ℕ → Attempt
attempted None call former = attempt.Comes came.Spent
attempted (Some (Commits r)) call former = attempt.Comes (came.Answered (changed_reply call former))
attempted (Some (Fails r)) call former = attempt.Again
attempted (Some Misses) call former = attempt.Again

-- or it is under way
abbrev pub attempted_by : Result (Option Swapped) Swapping → Call → Option ℕ → Attempt
attempted_by (Ok result) call former = attempted result call former
attempted_by (Err s) call former = attempt.Comes (came.Parked (parked.Changes s former))

-- ---- a try

-- its way has come to this at the end of its path
abbrev pub IsSought : View → List ℕ → Task → Sought → Type 0
IsSought v slots task (sought.Answers answer) = IsOn v (line.End answer)
IsSought v slots task (sought.Changes change given) = IsTask v task × IsToChange v slots given change
IsSought v slots task sought.Again = IsOn v new_try
IsSought v slots task sought.Full = MayAnswer v reply.NoSlots

-- it is to begin a new try, or has come to this
abbrev pub IsAttempted : View → Attempt → Type 0
IsAttempted v attempt.Again = IsOn v new_try
IsAttempted v (attempt.Comes result) = IsCome v result

-- it begins a new try, or comes to this
abbrev pub HasAttempted : View → Attempt → View → Type 0
HasAttempted before attempt.Again after = RunsOn before after × IsOn after new_try
HasAttempted before (attempt.Comes result) after = HasRunTo before result after

-- ---- its end

-- it is to end with this reply, or no slot was had
abbrev pub IsEnding : View → Option Reply → Type 0
IsEnding v (Some answer) = IsOn v (line.End answer)
IsEnding v None = MayAnswer v reply.NoSlots

-- it has ended with this reply, where it had to give up first or not
pub record HasEndedWith (before : View) (answer : Reply) (after : View) : Type 0 where
  pub late : View
  pub on : RunsOn before late
  pub ends : IsOn late (line.End answer)
  pub ended : HasEnded late answer after
