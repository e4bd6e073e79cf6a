-- What a seat's call is answered, or why it is refused.
use Rattle.std.specs.Prelude.{◌≡◌, ◌≤◌, ◌⊎◌, ℕ, is_some, true, Bool, Option, None, Result, Ok, Err}
use Rattle.history.specs.declared.calls.Call.{Call}
use Rattle.history.specs.declared.replies.Reply.{Reply}
use Rattle.history.specs.declared.replies.Reply.TheVariants as reply
use Rattle.machine_model.specs.Calls.{copies, handle_of}
use Rattle.machine_model.specs.States.{handle_limit}
use Rattle.lock_free.specs.declared.call_errors.CallError.{CallError}
use Rattle.lock_free.specs.declared.call_errors.CallError.TheVariants as error
use Rattle.lock_free.specs.declared.calling.Denial.{Denial}
use Rattle.lock_free.specs.declared.calling.Denial.TheVariants as denial
use Rattle.lock_free.specs.declared.rules.View.{View}
use Rattle.lock_free.specs.declared.walking.WalkError.{WalkError}
use Rattle.lock_free.specs.declared.walking.WalkError.TheVariants as lack
use Rattle.lock_free.specs.Accounts.{HasWaited}
use Rattle.lock_free.specs.Answering.{HasAnswered}
use Rattle.lock_free.specs.Calling.{HasCalled}

abbrev pub error_of : Denial → CallError
error_of denial.NoHandle = error.NoHandle
error_of denial.ReadOnly = error.ReadOnly
error_of denial.NotReadOnly = error.NotReadOnly

-- why a walk that had begun is refused
abbrev pub walk_error : WalkError → CallError
walk_error lack.Memory = error.Memory
walk_error lack.Spent = error.Spent

-- there is no such number, or the handle isn't open for the call
abbrev pub IsNoHandle : Call → Denial → Type 0
IsNoHandle call why = (why ≡ denial.NoHandle) × (handle_limit ≤ handle_of call)

-- the call hasn't begun; meanwhile others alone have gone on
pub record WasDenied (before : View) (call : Call) (why : Denial) (after : View) : Type 0 where
  pub waited : HasWaited before.actor before.account after.account
  pub reason : IsNoHandle call why ⊎ HasCalled before call (Err why) after

-- nothing of it is in the history; or it is answered there that nothing was changed, as it stands in no order
abbrev pub WasRefused : View → Call → Option ℕ → CallError → View → Type 0
WasRefused before call opens error.NoHandle after = WasDenied before call denial.NoHandle after
WasRefused before call opens error.ReadOnly after = WasDenied before call denial.ReadOnly after
WasRefused before call opens error.NotReadOnly after = WasDenied before call denial.NotReadOnly after
WasRefused before call opens error.Crowded after = HasAnswered before call opens reply.Crowded after
WasRefused before call opens error.Full after = HasAnswered before call opens reply.NoSlots after
WasRefused before call opens error.Spent after = HasAnswered before call opens reply.NoSlots after
WasRefused before call opens error.WornOut after = HasAnswered before call opens reply.NoSlots after
WasRefused before call opens error.Memory after = HasAnswered before call opens reply.NoSlots after
WasRefused before call opens why after = ⊥

-- what is returned is the reply to it in the history, or it was refused
abbrev pub IsTold : {A : Type 0} → (A → Reply) → View → Call → Result A CallError → View → Type 0
IsTold {A} reply_of before call (Ok told) after = HasAnswered before call None (reply_of told) after
IsTold {A} reply_of before call (Err why) after = WasRefused before call None why after

-- it hasn't begun in its number of tries: nothing of it is in the history, and others alone have gone on
abbrev pub RanOut : {A : Type 0} → View → Result A CallError → View → Type 0
RanOut {A} before told after = (told ≡ Err error.Spent) × HasWaited before.actor before.account after.account

-- why an operation of this call has given up: no slot was had, no generation for a root, or it is out of tries
abbrev pub IsLackOf : Call → CallError → Type 0
IsLackOf call error.Full = Unit {0}
IsLackOf call error.WornOut = copies call ≡ true
IsLackOf call error.Spent = Unit {0}
IsLackOf call why = ⊥

-- what the caller is told of this reply, with what was lacked where that is a refusal
abbrev pub told_by : Reply → CallError → Result Reply CallError
told_by reply.Crowded lack = Err error.Crowded
told_by reply.NoSlots lack = Err lack
told_by answer lack = Ok answer

-- so no reply that is told refuses the call
abbrev pub IsNoRefusal : Result Reply CallError → Type 0
IsNoRefusal (Ok reply.Crowded) = ⊥
IsNoRefusal (Ok reply.NoSlots) = ⊥
IsNoRefusal told = Unit {0}

-- whether its key has a value
abbrev pub IsToldIfSome : View → Call → Result Bool CallError → View → Type 0
IsToldIfSome before call (Ok told) after = (value : Option ℕ) × (told ≡ is_some value) × HasAnswered before call None (reply.Found value) after
IsToldIfSome before call (Err why) after = WasRefused before call None why after
