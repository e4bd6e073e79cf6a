-- Calls in a number of tries: what they are told, and what is known while one is under way.
use Rattle.std.specs.Prelude.{◌≡◌, ◌⊎◌, ℕ, Option, None, Result, Ok, Err}
use Rattle.history.specs.declared.calls.Access.{Access}
use Rattle.history.specs.declared.calls.Call.{Call}
use Rattle.history.specs.declared.replies.Reply.{Reply}
use Rattle.machine_model.specs.declared.actions.Action.TheVariants as act
use Rattle.lock_free.specs.declared.call_errors.CallError.{CallError}
use Rattle.lock_free.specs.declared.call_runs.Ran.{Ran}
use Rattle.lock_free.specs.declared.call_runs.Ran.TheVariants as ran
use Rattle.lock_free.specs.declared.parking.Parked.{Parked}
use Rattle.lock_free.specs.declared.rules.View.{View}
use Rattle.lock_free.specs.Answering.{HasAnswered}
use Rattle.lock_free.specs.Attempts.{HasEndedWith}
use Rattle.lock_free.specs.BegunCalls.{WasDeniedSo}
use Rattle.lock_free.specs.CellWords.{HasTidied}
use Rattle.lock_free.specs.Loading.{IsAt, IsSound}
use Rattle.lock_free.specs.Parking.{opens_of, IsParked}
use Rattle.lock_free.specs.RunningOn.{RunsOn}
use Rattle.lock_free.specs.SeatCalls.{told_by, IsLackOf, RanOut}
use Rattle.lock_free.specs.SeatWords.{HasEnded}
use Rattle.lock_free.specs.Seated.{HasActors}
use Rattle.lock_free.specs.Seeking.{IsCalled}
use Rattle.lock_free.specs.Stocks.{IsStock, Stocked}
use Rattle.lock_free.specs.WholeCalls.{HasLeft, RestsWith, SameSeat}

-- A call of the seat is under way: with whatever its operation will end, that is the answer to this call, which has begun since then.
abbrev pub IsUnderWay : View → Call → Option ℕ → View → Type 0
IsUnderWay before call opens v = (late after : View) (answer : Reply) → RunsOn v late → IsAt late (act.End answer) → HasEnded late answer after → HasAnswered before call opens answer after

-- ---- how far a call has come

-- the history has this reply to the call, and so its caller is told, with what was lacked where that is a refusal
pub record HasReplied (before : View) (call : Call) (opens : Option ℕ) (told : Result Reply CallError) (after : View) : Type 0 where
  pub answer : Reply
  pub lack : CallError
  pub lacks : IsLackOf call lack
  pub is : told ≡ told_by answer lack
  pub its : HasAnswered before call opens answer after

-- it was denied: nothing of it is in the history, and others alone have gone on
abbrev pub HasNotBegun : View → Call → Result Reply CallError → View → Type 0
HasNotBegun before call (Ok answer) after = ⊥
HasNotBegun before call (Err why) after = WasDeniedSo before call why after

-- it hasn't begun in its number of tries
abbrev pub HasRunOut : View → Ran → View → Type 0
HasRunOut before (ran.Told told) after = RanOut before told after
HasRunOut before (ran.UnderWay access parked) after = ⊥

-- a call for which the seat has reserved this number, or none
abbrev pub HasRunWith : View → Call → Option ℕ → Ran → View → Type 0
HasRunWith before call opens (ran.Told told) after = HasReplied before call opens told after ⊎ HasNotBegun before call told after
HasRunWith before call opens (ran.UnderWay access parked) after = IsUnderWay before call opens after

-- one that had begun before
abbrev pub HasRunBy : View → Call → Option ℕ → Ran → View → Type 0
HasRunBy before call opens (ran.Told told) after = HasReplied before call opens told after
HasRunBy before call opens (ran.UnderWay access parked) after = IsUnderWay before call opens after

-- since whenever it began
abbrev pub HasRunOn : View → Call → Ran → View → Type 0
HasRunOn v call result after = (before : View) (opens : Option ℕ) → IsUnderWay before call opens v → HasRunBy before call opens result after

-- its operation has ended, this is told of it, and some of what it has retired is free again, for it or for others
abbrev pub HasFinished : View → Call → Result Reply CallError → View → Type 0
HasFinished v call told after = (answer : Reply) × (lack : CallError) × IsLackOf call lack × (told ≡ told_by answer lack) × (ended : View) × HasEndedWith v answer ended
    × HasTidied ended after

-- or it is where it was
abbrev pub HasComeOut : View → Call → Access → Ran → View → Type 0
HasComeOut v call access (ran.Told told) after = HasFinished v call told after
HasComeOut v call access (ran.UnderWay same parked) after = (same ≡ access) × (after ≡ v) × IsParked v parked

-- it has run on to there before
abbrev pub HasRunTill : View → Call → Access → Ran → View → Type 0
HasRunTill v call access result after = (late : View) × RunsOn v late × HasComeOut late call access result after

-- ---- the seat

-- this is under way of its call; for the handle that this opens the seat has reserved a number
pub record IsGoing (v : View) (call : Call) (access : Access) (parked : Parked) : Type 0 where
  pub called : IsCalled v call access
  pub its : IsParked v parked
  pub number : v.opens ≡ opens_of parked

-- the number is left to the seat where the call is refused
abbrev pub number_left : Option ℕ → Result Reply CallError → Option ℕ
number_left opens (Ok answer) = None
number_left opens (Err why) = opens

abbrev pub HasLeftWith : View → Call → Option ℕ → Ran → View → Type 0
HasLeftWith before call opens (ran.Told told) after = SameSeat before after × RestsWith after (number_left opens told)
HasLeftWith before call opens (ran.UnderWay access parked) after = SameSeat before after × IsGoing after call access parked × (after.opens ≡ opens)

abbrev pub HasLeftBy : View → Call → Ran → View → Type 0
HasLeftBy before call (ran.Told told) after = HasLeft before after
HasLeftBy before call (ran.UnderWay access parked) after = SameSeat before after × IsGoing after call access parked

-- what it has in plain memory is what it knows
pub record IsParkedSeat (words : ℕ) (v : View) (number last : ℕ) (stock : Stocked) (call : Call) (access : Access) (parked : Parked) : Type 0 where
  pub sound : IsSound words v
  pub actors : HasActors v
  pub its : v.actor ≡ number
  pub its_last : v.last ≡ last
  pub owns : IsStock stock v
  pub going : IsGoing v call access parked
