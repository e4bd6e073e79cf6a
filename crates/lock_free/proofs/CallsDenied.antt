-- A call that opens nothing is denied.
use Rattle.history.specs.declared.calls.Call.{Call}
use Rattle.std.proofs.Common.{◌≤◌, None, Err, inl, inr, refl}
use Rattle.machine_model.specs.Calls.{handle_of}
use Rattle.machine_model.specs.States.{handle_limit}
use Rattle.lock_free.specs.declared.calling.Denial.{Denial}
use Rattle.lock_free.specs.declared.calling.Denial.TheVariants as denial
use Rattle.lock_free.specs.declared.rules.View.{View}
use Rattle.lock_free.specs.Calling.{HasCalled}
use Rattle.lock_free.specs.SeatCalls.{error_of, WasDenied, WasRefused}
use Rattle.lock_free.specs.WholeCalls.{RestsWith}
use Rattle.lock_free.proofs.CallBegins.{denied_waited}
use Rattle.lock_free.proofs.Waiting.{waited_none}

-- there is no such handle
pub no_handle_denied : (v : View) (c : Call) → handle_limit ≤ handle_of c → WasDenied v c denial.NoHandle v
no_handle_denied v c high = record { waited = waited_none v.actor v.account; reason = inl (refl, high) }

module _ (v : View) (rests : RestsWith v None) (c : Call) (why : Denial) (x : View) (h : HasCalled v c (Err why) x) where
  pub denied_so : WasDenied v c why x
  denied_so = record { waited = denied_waited v None rests c why x h; reason = inr h }

pub denied_refused : (v : View) → RestsWith v None → (c : Call) (why : Denial) (x : View) → HasCalled v c (Err why) x → WasRefused v c None (error_of why) x
denied_refused v rests c denial.NoHandle x h = denied_so v rests c denial.NoHandle x h
denied_refused v rests c denial.ReadOnly x h = denied_so v rests c denial.ReadOnly x h
denied_refused v rests c denial.NotReadOnly x h = denied_so v rests c denial.NotReadOnly x h
