-- A call on a key as a whole: what is known of it while its operation runs, and what it comes to.
use Rattle.std.specs.Prelude.{◌≡◌, ◌<◌, ℕ, false, List, length, None, Result}
use Rattle.history.specs.declared.calls.Access.{Access}
use Rattle.history.specs.declared.calls.Call.{Call}
use Rattle.history.specs.declared.replies.Reply.{Reply}
use Rattle.lock_free.specs.declared.call_errors.CallError.{CallError}
use Rattle.lock_free.specs.declared.descending.Found.{Found}
use Rattle.lock_free.specs.declared.descending.Found.TheVariants as found
use Rattle.lock_free.specs.declared.rules.View.{View}
use Rattle.machine_model.specs.Beneath.slot_arena.specs.declared.refs.Ref.{Ref}
use Rattle.machine_model.specs.declared.building.Site.TheVariants as site
use Rattle.machine_model.specs.declared.lines.Line.TheVariants as line
use Rattle.machine_model.specs.Calls.{copies}
use Rattle.lock_free.specs.Attempts.{IsToChange, IsTried}
use Rattle.lock_free.specs.Calling.{IsRunning}
use Rattle.lock_free.specs.Descending.{IsHere, IsInside, absent_in}
use Rattle.lock_free.specs.Holding.{IsOn}
use Rattle.lock_free.specs.Seeking.{IsCalled, IsToClean, IsToRenew}
use Rattle.lock_free.specs.TriedCalls.{HasTold}
use Rattle.lock_free.specs.UnderWay.{IsUnderWay}
use Rattle.lock_free.specs.WholeCalls.{HasLeft}

-- its operation runs, on a handle that allows this, and opens none
pub record IsCalling (v : View) (call : Call) (access : Access) : Type 0 where
  pub running : IsRunning v
  pub called : IsCalled v call access
  pub tried : IsTried call
  pub keyed : copies call ≡ false
  pub none : v.opens ≡ None

-- whoever has it under way is told this, and its seat rests
abbrev pub IsDone : View → Call → Result Reply CallError → View → Type 0
IsDone v call told after = ((before : View) → IsUnderWay before call None v → HasTold before call told after) × HasLeft v after

-- it has come to this at the end of the path
abbrev pub IsFoundAs : View → List ℕ → Found → Type 0
IsFoundAs v slots (found.Answers answer) = IsOn v (line.End answer)
IsFoundAs v slots (found.Changes update given) = IsToChange v slots given update
IsFoundAs v slots (found.Renews given) = (0 < length slots) × IsHere v slots given (IsToRenew v)
IsFoundAs v slots found.Cleans = IsToClean v slots

-- its key is absent, and another one stands at this position
abbrev pub IsBeside : View → Call → ℕ → List Ref → Ref → Type 0
IsBeside v call position path main = IsInside v main position × IsOn v (absent_in call (site.Beside position) path main)
