-- A call of a seat begins, or its caller is told why not.
use Rattle.std.specs.Prelude.{◌≡◌, ◌⊎◌, ◌<◌, ℕ, true, false, is_some, Option, Some, None, Result, Ok, Err}
use Rattle.history.specs.declared.calls.Call.{Call}
use Rattle.machine_model.specs.Calls.{handle_of, is_close, opens_handle}
use Rattle.machine_model.specs.States.{handle_limit}
use Rattle.lock_free.specs.declared.call_errors.CallError.{CallError}
use Rattle.lock_free.specs.declared.call_errors.CallError.TheVariants as error
use Rattle.lock_free.specs.declared.calling.Denial.{Denial}
use Rattle.lock_free.specs.declared.calling.Denial.TheVariants as denial
use Rattle.lock_free.specs.declared.reading.Way.{Way}
use Rattle.lock_free.specs.declared.rules.View.{View}
use Rattle.lock_free.specs.Calling.{HasCalled}
use Rattle.lock_free.specs.Loading.{IsSound}
use Rattle.lock_free.specs.Numbers.{reserving}
use Rattle.lock_free.specs.SeatCalls.{error_of, IsNoHandle, RanOut}
use Rattle.lock_free.specs.WholeCalls.{RestsWith, SameSeat}

-- ---- what is reserved for it

-- the seat has reserved this number for the handle that its call opens, or none
abbrev pub with_number : Option ℕ → View → View
with_number None v = v
with_number (Some number) v = reserving v number

-- there is a handle of this number; or all numbers of handles are taken, where it is to open one
abbrev pub HasReservedFor : View → Call → Result (Option ℕ) CallError → View → Type 0
HasReservedFor before call (Ok opens) after =
    (after ≡ with_number opens before) × (opens_handle call ≡ is_some opens) × (handle_of call < handle_limit) × ((number : ℕ) → opens ≡ Some number → number < handle_limit)
HasReservedFor before call (Err error.NoHandle) after = (after ≡ before) × IsNoHandle call denial.NoHandle
HasReservedFor before call (Err error.HandlesFull) after = (after ≡ before) × (opens_handle call ≡ true)
HasReservedFor before call (Err why) after = ⊥

-- ---- its begin

-- the seat rests, and has reserved a number if this call opens a handle
pub record IsReadyFor (v : View) (call : Call) : Type 0 where
  pub opens : Option ℕ
  pub rests : RestsWith v opens
  pub number : opens_handle call ≡ is_some opens
  pub stays : is_close call ≡ false

-- the definition denies it so, or its handle is only being opened
abbrev pub WasDeniedSo : View → Call → CallError → View → Type 0
WasDeniedSo before call why after = (denial : Denial) × (why ≡ error_of denial) × HasCalled before call (Err denial) after

abbrev pub HasBegunCall : View → Call → Result Way CallError → View → Type 0
HasBegunCall before call (Ok way) after = HasCalled before call (Ok way) after
HasBegunCall before call (Err why) after = WasDeniedSo before call why after

-- or it hasn't begun in so many looks
abbrev pub HasTriedToBegin : View → Call → Result Way CallError → View → Type 0
HasTriedToBegin before call begun after = HasBegunCall before call begun after ⊎ RanOut before begun after

-- then the seat rests as before
abbrev pub RestsAgain : View → View → Type 0
RestsAgain before after = (opens : Option ℕ) → RestsWith before opens → SameSeat before after × RestsWith after opens

-- what comes of this call now has come of it since before, when its seat rested: others alone have gone on
pub record StillBegins (words : ℕ) (before : View) (call : Call) (v : View) : Type 0 where
  pub sound : IsSound words before
  pub rests : RestsWith before None
  pub then : (begun : Result Way Denial) (after : View) → HasCalled v call begun after → HasCalled before call begun after
