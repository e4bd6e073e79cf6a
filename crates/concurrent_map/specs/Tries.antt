-- What comes of calls that have only so many tries.
use Rattle.std.specs.Prelude.{◌≡◌, ℕ, Option, None, Some, Result, Ok, Err, IfOk, IfErr}
use Rattle.history.specs.declared.calls.Call.{Call}
use Rattle.history.specs.declared.replies.Reply.{Reply}
use Rattle.history.specs.declared.replies.Reply.TheVariants as reply
use Rattle.lock_free.specs.declared.call_errors.CallError.{CallError}
use Rattle.lock_free.specs.declared.parked_seats.Tried.{Tried}
use Rattle.lock_free.specs.declared.parked_seats.Tried.TheVariants as plain
use Rattle.lock_free.specs.KeyReplies.{FitsCall, FitsError}
use Rattle.lock_free.specs.Places.{AreSizes}
use Rattle.lock_free.specs.Naming.{MapId}
use Rattle.lock_free.specs.Seated.{HasGoneOn, Seated}
use Rattle.lock_free.specs.TriedCalls.{IsParkedCall}
use Rattle.concurrent_map.specs.declared.tries.MapTried.{MapTried}
use Rattle.concurrent_map.specs.declared.tries.MapTried.TheVariants as tried
use Rattle.concurrent_map.specs.Calls.{RanOut, WasAnswered, WasRefused}
use Rattle.concurrent_map.specs.Seats.{IsSeatOf, SeatState, state_of_seat}

-- the handle that a call has opened, where it is answered so
abbrev pub opened_by : Reply → Option ℕ
opened_by (reply.Opened number) = Some number
opened_by answer = None

-- What is returned is the reply to the call, or why it was refused; a copy's handle is that by which it stands in the history.
abbrev pub IsReply : SeatState → Call → Result Reply CallError → SeatState → Type 0
IsReply before call (Ok answer) after = WasAnswered before call (opened_by answer) answer after
IsReply before call (Err why) after = (opens : Option ℕ) × WasRefused before call opens why after

-- and it fits the call
pub record IsAnswer (before : SeatState) (call : Call) (told : Result Reply CallError) (after : SeatState) : Type 0 where
  pub is : IsReply before call told after
  pub fits : IfOk told (FitsCall call)
  pub why : IfErr told (FitsError call)

-- the seat, as it was before this call, which has begun since and is under way
pub record IsUnderWay (before : SeatState) (call : Call) (seat : Seated) : Type 0 where
  pub first : Seated
  pub was : state_of_seat first ≡ before
  pub later : HasGoneOn first seat
  pub parked : IsParkedCall first.view call seat.view

-- the call has come to its end, or is under way
abbrev pub HasTried : SeatState → Call → MapTried → Type 0
HasTried before call (tried.Answered seat told) = IsAnswer before call told seat
HasTried before call (tried.Parked seat) = IsUnderWay before call seat

-- it has not begun in its number of tries
abbrev pub NeverBegan : SeatState → MapTried → Type 0
NeverBegan before (tried.Answered seat told) = RanOut before told seat
NeverBegan before (tried.Parked seat) = ⊥

-- ---- the same, as `lock_free` says it

abbrev pub of_map : Tried → MapTried
of_map (plain.Answered seat told) = tried.Answered (state_of_seat seat) told
of_map (plain.Parked seat) = tried.Parked seat

-- the sizes of its seat's map are in range
abbrev pub HasSizes : Tried → Type 0
HasSizes (plain.Answered seat told) = AreSizes seat.view.sizes
HasSizes (plain.Parked seat) = AreSizes seat.view.sizes

-- its seat is one of this map's
abbrev pub IsTriedAt : MapId → MapTried → Type 0
IsTriedAt map (tried.Answered seat told) = IsSeatOf map seat
IsTriedAt map (tried.Parked seat) = IsSeatOf map (state_of_seat seat)
