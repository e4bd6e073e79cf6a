-- A get as a whole: its first try, and what it is told.
use Rattle.std.specs.Prelude.{◌≡◌, ◌⊎◌, ◌<◌, ◌^◌, ℕ, false, Bool, List, Option, Some, None, Result, Ok, Err, IfErr}
use Rattle.history.specs.declared.calls.Call.{Call}
use Rattle.history.specs.declared.replies.Reply.TheVariants as reply
use Rattle.machine_model.specs.Calls.{needs_writable}
use Rattle.lock_free.specs.declared.call_errors.CallError.{CallError}
use Rattle.lock_free.specs.declared.call_errors.CallError.TheVariants as error
use Rattle.lock_free.specs.declared.leaving.Left.{Left}
use Rattle.lock_free.specs.declared.rules.View.{View}
use Rattle.lock_free.specs.declared.seeking.Sought.{Sought}
use Rattle.lock_free.specs.declared.tasks.Task.{Task}
use Rattle.lock_free.specs.Accounts.{HasWaited}
use Rattle.lock_free.specs.Answering.{HasAnswered}
use Rattle.lock_free.specs.Attempts.{IsSought}
use Rattle.lock_free.specs.BegunCalls.{StillBegins}
use Rattle.lock_free.specs.Descending.{IsTask}
use Rattle.lock_free.specs.KeyReplies.{FitsError}
use Rattle.lock_free.specs.Parking.{left_so, IsCome, IsOwnLeft}
use Rattle.lock_free.specs.SeatCalls.{IsTold, IsToldIfSome}
use Rattle.lock_free.specs.SlotWaits.{HasTriedInVain, IsToldAtLast}
use Rattle.lock_free.specs.UnderWay.{IsUnderWay}
use Rattle.lock_free.specs.WholeCalls.{SameSeat}

-- it is of a call that only reads
pub record IsLookup (v : View) (task : Task) : Type 0 where
  pub its : IsTask v task
  pub reads : needs_writable task.call ≡ false

-- the try has come to this at the end of this path, or is out of tries
abbrev pub IsGotten : View → List ℕ → Result (Task × Sought) Left → Type 0
IsGotten v slots (Ok (task, sought)) = (task.start < 2 ^ 36) × IsSought v slots task sought
IsGotten v slots (Err left) = IsOwnLeft left × IsCome v (left_so left)

-- its caller is told this
abbrev pub HasToldGet : View → Call → Result (Option ℕ) CallError → View → Type 0
HasToldGet before call result after = IsTold reply.Found before call result after × IfErr result (FitsError call)

-- whoever has it under way is told this
abbrev pub HasGotten : View → Call → Result (Option ℕ) CallError → View → Type 0
HasGotten v call result after = (before : View) → IsUnderWay before call None v → HasToldGet before call result after

-- ---- it waits for slots

-- a get that is told so has given up: it has found no slot, or came to nothing
abbrev pub HasGivenUp : Result (Option ℕ) CallError → Type 0
HasGivenUp (Err error.Full) = Unit {0}
HasGivenUp (Err error.Spent) = Unit {0}
HasGivenUp told = ⊥

-- its caller is told this at last
abbrev pub HasToldGetAtLast : View → Call → Result (Option ℕ) CallError → View → Type 0
HasToldGetAtLast before call result after = IsToldAtLast reply.Found before call result after × IfErr result (FitsError call)

-- whoever begins it still is told this at last
abbrev pub HasGottenAtLast : ℕ → View → Call → Result (Option ℕ) CallError → View → Type 0
HasGottenAtLast words v call result after = (before : View) → SameSeat before v → StillBegins words before call v → HasToldGetAtLast before call result after

-- or whether the key has a value
abbrev pub IsToldIfSomeAtLast : View → Call → Result Bool CallError → View → Type 0
IsToldIfSomeAtLast before call told after = (last : View) × HasTriedInVain before call last × SameSeat last after × IsToldIfSome last call told after

-- ---- its seat glances, and does no more

-- it is told this value; or it was refused; or nothing of it is in the history, and others alone have gone on
abbrev pub IsToldAtOnce : View → Call → Option (Option ℕ) → View → Type 0
IsToldAtOnce before call (Some value) after = HasAnswered before call None (reply.Found value) after
IsToldAtOnce before call None after = HasAnswered before call None reply.NoSlots after ⊎ HasWaited before.actor before.account after.account
