-- What a call of a seat is answered, and what then stands in the history that its seat has seen.
use Rattle.std.specs.Prelude.{◌≡◌, ◌⊎◌, ◌++◌, ◌∷◌, [], ℕ, is_some, slice_get, Bool, All, List, Option, Some, None, Result, Ok, Err}
use Rattle.history.specs.declared.calls.Access.TheVariants.{Writable, ReadOnly}
use Rattle.history.specs.declared.calls.Call.{Call}
use Rattle.history.specs.declared.calls.Call.TheVariants.{Close}
use Rattle.history.specs.declared.events.Event.{Event}
use Rattle.history.specs.declared.events.Event.TheVariants.{Begin, End}
use Rattle.history.specs.declared.replies.Reply.{Reply}
use Rattle.history.specs.declared.replies.Reply.TheVariants.{Closed, Crowded, Found, NoSlots, Opened, Pairs}
use Rattle.history.specs.Handles.{handle_of}
use Rattle.lock_free.specs.declared.call_errors.CallError.{CallError}
use Rattle.lock_free.specs.declared.call_errors.CallError.TheVariants as error
use Rattle.lock_free.specs.Answering.{IsOfOthers}
use Rattle.lock_free.specs.Answers.{Answer}
use Rattle.lock_free.specs.SlotWaits.{IsRefusalOf}
use Rattle.lock_free.specs.Telling.{GoesOn}
use Rattle.concurrent_map.specs.Handles.{WasNoHandle, WasNoHandleYet, WasOpenTo}
use Rattle.concurrent_map.specs.Seats.{SeatState, answers_of_seat}

-- it is the same seat, later
pub record IsSameSeat (before after : SeatState) : Type 0 where
  pub map : after.map ≡ before.map
  pub number : after.number ≡ before.number

-- the call, by this id, with the handle that it opens, if it opens one, and the reply to it
abbrev pub answered : ℕ → Call → Option ℕ → Reply → Answer
answered id call opens reply = record { of = record { id = id; call = call; opens = opens }; reply = reply }

-- The call has begun after all that the seat had seen, and has ended with this reply; between the two stands what other seats did meanwhile. It is one more of the seat's
-- answers.
pub record WasAnswered (before : SeatState) (call : Call) (opens : Option ℕ) (reply : Reply) (after : SeatState) : Type 0 where
  pub same : IsSameSeat before after
  pub id : ℕ
  pub earlier : List Event
  pub meanwhile : List Event
  pub since : GoesOn before.history earlier
  pub is : after.history ≡ earlier ++ Begin id before.number call opens ∷ meanwhile ++ End id reply ∷ []
  pub others : All (IsOfOthers before.number id) meanwhile
  pub answers : answers_of_seat after ≡ answers_of_seat before ++ answered id call opens reply ∷ []

-- Nothing of the call is in the history, which has gone on by what others did.
pub record WasNotMade (before after : SeatState) : Type 0 where
  pub same : IsSameSeat before after
  pub goes_on : GoesOn before.history after.history
  pub answers : answers_of_seat after ≡ answers_of_seat before

-- The call was refused so, and has changed nothing. Its handle wasn't open, or was for readers, or could be written, and then it isn't in the history; or no number was left
-- for a handle, and nothing has happened at all; else it stands in the history as one that was refused.
abbrev pub WasRefused : SeatState → Call → Option ℕ → CallError → SeatState → Type 0
WasRefused before call opens error.NoHandle after = WasNotMade before after × WasNoHandleYet before (handle_of call) after
WasRefused before call opens error.ReadOnly after = WasNotMade before after × WasOpenTo before (handle_of call) ReadOnly after
WasRefused before call opens error.NotReadOnly after = WasNotMade before after × WasOpenTo before (handle_of call) Writable after
WasRefused before call opens error.HandlesFull after = after ≡ before
WasRefused before call opens error.Crowded after = WasAnswered before call opens Crowded after
WasRefused before call opens error.Full after = WasAnswered before call opens NoSlots after
WasRefused before call opens error.Spent after = WasAnswered before call opens NoSlots after
WasRefused before call opens error.WornOut after = WasAnswered before call opens NoSlots after
WasRefused before call opens error.Memory after = WasAnswered before call opens NoSlots after
WasRefused before call opens why after = WasNotMade before after

-- What is returned is the reply to the call, or why it was refused.
abbrev pub IsTold : {A : Type 0} → (A → Reply) → SeatState → Call → Result A CallError → SeatState → Type 0
IsTold {A} reply_of before call (Ok told) after = WasAnswered before call None (reply_of told) after
IsTold {A} reply_of before call (Err why) after = WasRefused before call None why after

-- it is whether the key has a value
abbrev pub IsToldIfSome : SeatState → Call → Result Bool CallError → SeatState → Type 0
IsToldIfSome before call (Ok told) after = (value : Option ℕ) × (told ≡ is_some value) × WasAnswered before call None (Found value) after
IsToldIfSome before call (Err why) after = WasRefused before call None why after

-- Of a get that is made at once or not at all: it is told this value; or it was refused, or is not in the history.
abbrev pub IsToldAtOnce : SeatState → Call → Option (Option ℕ) → SeatState → Type 0
IsToldAtOnce before call (Some value) after = WasAnswered before call None (Found value) after
IsToldAtOnce before call None after = WasAnswered before call None NoSlots after ⊎ WasNotMade before after

-- it is the first pair of the list that is the reply
abbrev pub IsToldFirst : SeatState → Call → Result (Option (ℕ × ℕ)) CallError → SeatState → Type 0
IsToldFirst before call (Ok first) after = (pairs : List (ℕ × ℕ)) × (first ≡ slice_get pairs 0) × WasAnswered before call None (Pairs pairs) after
IsToldFirst before call (Err why) after = WasRefused before call None why after

-- It is the handle that the call has opened.
abbrev pub IsToldHandle : SeatState → Call → Result ℕ CallError → SeatState → Type 0
IsToldHandle before call (Ok handle) after = WasAnswered before call (Some handle) (Opened handle) after
IsToldHandle before call (Err why) after = (opens : Option ℕ) × WasRefused before call opens why after

-- ---- calls that wait for slots

-- The seat was answered nothing since then but refusals of tries of this call, which have changed nothing.
pub record WasTriedInVain (before : SeatState) (call : Call) (after : SeatState) : Type 0 where
  pub same : IsSameSeat before after
  pub goes_on : GoesOn before.history after.history
  pub refusals : List Answer
  pub answers : answers_of_seat after ≡ answers_of_seat before ++ refusals
  pub of_call : All (IsRefusalOf call) refusals

-- What is returned is the reply to the last try of the call, or why that one was refused.
abbrev pub IsToldAtLast : {A : Type 0} → (A → Reply) → SeatState → Call → Result A CallError → SeatState → Type 0
IsToldAtLast {A} reply_of before call told after = (last : SeatState) × WasTriedInVain before call last × IsTold reply_of last call told after

-- it is whether the key has a value
abbrev pub IsToldIfSomeAtLast : SeatState → Call → Result Bool CallError → SeatState → Type 0
IsToldIfSomeAtLast before call told after = (last : SeatState) × WasTriedInVain before call last × IsToldIfSome last call told after

-- it is the handle that the last try has opened
abbrev pub IsToldHandleAtLast : SeatState → Call → Result ℕ CallError → SeatState → Type 0
IsToldHandleAtLast before call told after = (last : SeatState) × WasTriedInVain before call last × IsToldHandle last call told after

-- ---- a close

-- The handle is closed; or there was none that was open, or it is busy: for no other reason is a close refused.
abbrev pub IsToldClose : {A : Type 0} → SeatState → ℕ → Result A CallError → SeatState → Type 0
IsToldClose {A} before handle (Ok done) after = WasAnswered before (Close handle) None Closed after
IsToldClose {A} before handle (Err error.NoHandle) after = WasNotMade before after × WasNoHandle before handle after
IsToldClose {A} before handle (Err error.Busy) after = WasNotMade before after
IsToldClose {A} before handle (Err why) after = ⊥

-- It has not begun in its number of tries: nothing of it is in the history.
abbrev pub RanOut : {A : Type 0} → SeatState → Result A CallError → SeatState → Type 0
RanOut {A} before told after = (told ≡ Err error.Spent) × WasNotMade before after
