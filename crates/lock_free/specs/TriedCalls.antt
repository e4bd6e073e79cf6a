-- What comes of a seat that has tried a call so many times.
use Rattle.std.specs.Prelude.{◌≡◌, ℕ, Bool, true, false, is_some, Option, Some, Result, Ok, Err, IfOk, IfErr}
use Rattle.history.specs.declared.calls.Call.{Call}
use Rattle.history.specs.declared.replies.Reply.{Reply}
use Rattle.history.specs.declared.replies.Reply.TheVariants as reply
use Rattle.machine_model.specs.declared.operations.Operation.{Operation}
use Rattle.machine_model.specs.Calls.{opens_handle}
use Rattle.lock_free.specs.declared.call_errors.CallError.{CallError}
use Rattle.lock_free.specs.declared.call_runs.Ran.{Ran}
use Rattle.lock_free.specs.declared.call_runs.Ran.TheVariants as ran
use Rattle.lock_free.specs.declared.parked_seats.Tried.{Tried}
use Rattle.lock_free.specs.declared.parked_seats.Tried.TheVariants as tried
use Rattle.lock_free.specs.declared.rules.View.{View}
use Rattle.lock_free.specs.KeyReplies.{FitsCall, FitsError}
use Rattle.lock_free.specs.Loading.{Runs}
use Rattle.lock_free.specs.Numbers.{without_number}
use Rattle.lock_free.specs.Seated.{HasGoneOn, IsSeated, Seated}
use Rattle.lock_free.specs.SeatCalls.{IsTold, RanOut}
use Rattle.lock_free.specs.Stocks.{Stocked}
use Rattle.lock_free.specs.UnderWay.{number_left, IsParkedSeat, IsUnderWay}
use Rattle.lock_free.specs.WholeCalls.{IsToldCopy, RestsWith}

-- it is the same seat, later
abbrev pub GoesOnAs : Seated → Tried → Type 0
GoesOnAs before (tried.Answered seat told) = HasGoneOn before seat
GoesOnAs before (tried.Parked seat) = HasGoneOn before seat

-- ---- what the caller is told

-- the handle that is told is the one by which the call stands in the history
abbrev pub IsToldHandle : View → Call → Result Reply CallError → View → Type 0
IsToldHandle before call (Ok (reply.Opened number)) after = IsToldCopy before call (Ok number) after
IsToldHandle before call (Ok answer) after = ⊥
IsToldHandle before call (Err why) after = IsToldCopy before call (Err why) after

-- as the call opens a handle or not
abbrev pub IsToldBy : Bool → View → Call → Result Reply CallError → View → Type 0
IsToldBy true before call told after = IsToldHandle before call told after
IsToldBy false before call told after = IsTold (λ r. r) before call told after

pub record HasTold (before : View) (call : Call) (told : Result Reply CallError) (after : View) : Type 0 where
  pub is : IsToldBy (opens_handle call) before call told after
  pub fits : IfOk told (FitsCall call)
  pub why : IfErr told (FitsError call)

-- the call is under way, with the number of the handle that it opens, if it opens one
pub record IsParkedCall (before : View) (call : Call) (v : View) : Type 0 where
  pub opens : Option ℕ
  pub number : opens_handle call ≡ is_some opens
  pub is : IsUnderWay before call opens v
  pub its : (operation : Operation) → Runs v operation → operation.call ≡ call

-- what comes of one that has begun
abbrev pub HasTriedCall : View → Call → Tried → Type 0
HasTriedCall before call (tried.Answered seat told) = HasTold before call told seat.view
HasTriedCall before call (tried.Parked seat) = IsParkedCall before call seat.view

-- it hasn't begun in its number of tries
abbrev pub NeverBegan : View → Tried → Type 0
NeverBegan before (tried.Answered seat told) = RanOut before told seat.view
NeverBegan before (tried.Parked seat) = ⊥

-- ---- the same of the parts of its seat

abbrev pub HasRunTry : View → Call → Ran → View → Type 0
HasRunTry before call (ran.Told told) after = HasTold before call told after
HasRunTry before call (ran.UnderWay access parked) after = IsParkedCall before call after

-- the seat still has the number of a call that was refused
abbrev pub HoldsNumber : View → Option ℕ → Ran → Type 0
HoldsNumber v opens (ran.Told told) = RestsWith v (number_left opens told)
HoldsNumber v opens (ran.UnderWay access parked) = Unit {0}

-- and gives it back
abbrev pub settled : Option ℕ → Ran → View → View
settled (Some number) (ran.Told (Err why)) v = without_number v
settled opens result v = v

-- ---- a seat, by how far its call has come

abbrev pub IsSeatBy : ℕ → View → ℕ → ℕ → Stocked → Call → Ran → Type 0
IsSeatBy words v number last stock call (ran.Told told) = IsSeated words v number last stock
IsSeatBy words v number last stock call (ran.UnderWay access parked) = IsParkedSeat words v number last stock call access parked

abbrev pub tried_by : Seated → Ran → Tried
tried_by seat (ran.Told told) = tried.Answered seat told
tried_by seat (ran.UnderWay access parked) = tried.Parked seat
