-- Calls about a whole map: copies, a clear and a close.
use Rattle.std.specs.Prelude.{◌≡◌, ◌≤◌, ◌⊎◌, ℕ, Option, Some, None, Result, Ok, Err}
use Rattle.history.specs.declared.calls.Call.{Call}
use Rattle.history.specs.declared.calls.Call.TheVariants.{Close}
use Rattle.history.specs.declared.replies.Reply.{Reply}
use Rattle.history.specs.declared.replies.Reply.TheVariants as reply
use Rattle.machine_model.specs.declared.lines.Line.TheVariants as line
use Rattle.machine_model.specs.declared.operations.Operation.{Operation}
use Rattle.machine_model.specs.declared.walking.WalkLine.TheVariants as walk
use Rattle.machine_model.specs.States.{handle_limit}
use Rattle.lock_free.specs.declared.call_errors.CallError.{CallError}
use Rattle.lock_free.specs.declared.call_errors.CallError.TheVariants as error
use Rattle.lock_free.specs.declared.calling.Denial.{Denial}
use Rattle.lock_free.specs.declared.calling.Denial.TheVariants as denial
use Rattle.lock_free.specs.declared.rules.View.{View}
use Rattle.lock_free.specs.Accounts.{HasWaited}
use Rattle.lock_free.specs.Answering.{HasAnswered}
use Rattle.lock_free.specs.Calling.{HasCalled}
use Rattle.lock_free.specs.Closing.{FoundClosed}
use Rattle.lock_free.specs.Loading.{Runs}
use Rattle.lock_free.specs.Numbers.{reserving, without_number}
use Rattle.lock_free.specs.SeatCalls.{IsNoHandle}
use Rattle.lock_free.specs.SeatWords.{IsIdle}
use Rattle.lock_free.specs.Telling.{GoesOn}

-- ---- a call, for which a number is reserved, or none

-- the seat runs nothing, is pinned nowhere, and has reserved this number, or none
pub record RestsWith (v : View) (opens : Option ℕ) : Type 0 where
  pub idle : IsIdle v
  pub pin : v.pin ≡ None
  pub entered : v.entered ≡ None
  pub opens_it : v.opens ≡ opens

-- the same seat later
pub record SameSeat (before after : View) : Type 0 where
  pub sizes : after.sizes ≡ before.sizes
  pub actor : after.actor ≡ before.actor
  pub last : after.last ≡ before.last
  pub goes_on : GoesOn before.account.steps after.account.steps

-- the same seat later, between two calls
pub record HasLeft (before after : View) : Type 0 where
  pub same : SameSeat before after
  pub rests : RestsWith after None

-- ---- a call that opens a handle

-- the call hasn't begun; meanwhile others alone have gone on
pub record WasDeniedCopy (before : View) (call : Call) (why : Denial) (after : View) : Type 0 where
  pub waited : HasWaited before.actor before.account after.account
  pub reason : IsNoHandle call why ⊎ ((number : ℕ) × (at : View) × HasCalled (reserving before number) call (Err why) at × (after ≡ without_number at))

-- it is answered in the history that nothing was changed, as it stands in no order
abbrev pub HasFoundNoSlot : View → Call → View → Type 0
HasFoundNoSlot before call after = (number : ℕ) × HasAnswered before call (Some number) reply.NoSlots after

-- or nothing of it is in the history
abbrev pub WasRefusedCopy : View → Call → CallError → View → Type 0
WasRefusedCopy before call error.NoHandle after = WasDeniedCopy before call denial.NoHandle after
WasRefusedCopy before call error.ReadOnly after = WasDeniedCopy before call denial.ReadOnly after
WasRefusedCopy before call error.NotReadOnly after = WasDeniedCopy before call denial.NotReadOnly after
WasRefusedCopy before call error.HandlesFull after = after ≡ before
WasRefusedCopy before call error.Full after = HasFoundNoSlot before call after
WasRefusedCopy before call error.Spent after = HasFoundNoSlot before call after
WasRefusedCopy before call error.WornOut after = HasFoundNoSlot before call after
WasRefusedCopy before call why after = ⊥

-- the handle that is returned is the one in the reply
abbrev pub IsToldCopy : View → Call → Result ℕ CallError → View → Type 0
IsToldCopy before call (Ok number) after = HasAnswered before call (Some number) (reply.Opened number) after
IsToldCopy before call (Err why) after = WasRefusedCopy before call why after

-- ---- a walk

-- the operation of a call of this kind is to begin with the root
pub record IsWalkOf (kind : ℕ → Call) (v : View) : Type 0 where
  pub operation : Operation
  pub runs : Runs v operation
  pub line_is : operation.line ≡ line.Walk walk.Root
  pub handle : ℕ
  pub call_is : operation.call ≡ kind handle

-- the reply to a call that came to this; without memory or out of tries it was answered that nothing was changed
abbrev pub reply_or_none : {A E : Type 0} → (A → Reply) → Result A E → Reply
reply_or_none reply_of (Ok told) = reply_of told
reply_or_none reply_of (Err why) = reply.NoSlots

-- why it is refused that had begun
abbrev pub IsWalkLack : CallError → Type 0
IsWalkLack error.Memory = Unit {0}
IsWalkLack error.Spent = Unit {0}
IsWalkLack why = ⊥

-- ---- a close

-- there is no such number, or no handle of it was open
abbrev pub FoundNoHandle : View → ℕ → View → Type 0
FoundNoHandle before handle after = (handle_limit ≤ handle) ⊎ FoundClosed before handle after

-- it is closed; or nothing of the call is in the history, and others alone have gone on
abbrev pub IsToldClose : {A : Type 0} → View → ℕ → Result A CallError → View → Type 0
IsToldClose before handle (Ok done) after = HasAnswered before (Close handle) None reply.Closed after
IsToldClose before handle (Err error.NoHandle) after = HasWaited before.actor before.account after.account × FoundNoHandle before handle after
IsToldClose before handle (Err error.Busy) after = HasWaited before.actor before.account after.account
IsToldClose before handle (Err why) after = ⊥
