-- What a seat is told of a handle: whether it is open, and whether its map may be changed.
use Rattle.std.specs.Prelude.{◌≡◌, ℕ, Bool, true, false, None, Result, Ok, Err}
use Rattle.history.specs.declared.calls.Access.{Access}
use Rattle.history.specs.declared.calls.Access.TheVariants.{Writable, ReadOnly}
use Rattle.history.specs.declared.calls.Call.TheVariants.{Count}
use Rattle.history.specs.declared.replies.Reply.TheVariants.{NoSlots}
use Rattle.lock_free.specs.declared.call_errors.CallError.{CallError}
use Rattle.lock_free.specs.declared.call_errors.CallError.TheVariants as error
use Rattle.concurrent_map.specs.Calls.{WasAnswered, WasNotMade}
use Rattle.concurrent_map.specs.Handles.{WasNoHandleYet, WasOpenTo}
use Rattle.concurrent_map.specs.Seats.{SeatState}

-- The handle was open, and this is what it allowed; the question stands in the history as a count that was refused, where it stands there. Or there was no handle, or it was
-- only being opened: for no other reason is it refused.
abbrev pub IsToldAccess : SeatState → ℕ → Result Access CallError → SeatState → Type 0
IsToldAccess before handle (Ok Writable) after = WasNotMade before after × WasOpenTo before handle Writable after
IsToldAccess before handle (Ok ReadOnly) after = WasAnswered before (Count handle) None NoSlots after × WasOpenTo before handle ReadOnly after
IsToldAccess before handle (Err why) after = (why ≡ error.NoHandle) × WasNotMade before after × WasNoHandleYet before handle after

-- what is returned is read off this
abbrev pub is_open_by : Result Access CallError → Bool
is_open_by (Ok access) = true
is_open_by (Err why) = false

abbrev pub is_writable_by : Result Access CallError → Result Bool CallError
is_writable_by (Ok Writable) = Ok true
is_writable_by (Ok ReadOnly) = Ok false
is_writable_by (Err why) = Err why

abbrev pub IsToldOpen : SeatState → ℕ → Bool → SeatState → Type 0
IsToldOpen before handle so after = (told : Result Access CallError) × IsToldAccess before handle told after × (so ≡ is_open_by told)

abbrev pub IsToldWritable : SeatState → ℕ → Result Bool CallError → SeatState → Type 0
IsToldWritable before handle so after = (told : Result Access CallError) × IsToldAccess before handle told after × (so ≡ is_writable_by told)
