-- What a handle was where a call on it was denied, in the words of histories.
use Rattle.std.proofs.Common.{arith, ◌≡◌, ◌⊎◌, inl, inr, ℕ, Err, sym, subst}
use Rattle.ctrie_base.specs.Hashes.{hash_of}
use Rattle.history.specs.declared.calls.Access.{Access}
use Rattle.history.specs.declared.calls.Access.TheVariants.{Writable, ReadOnly}
use Rattle.history.specs.declared.calls.Call.{Call}
use Rattle.history.specs.Handles.{handle_of}
use Rattle.lock_free.specs.declared.calling.Denial.{Denial}
use Rattle.lock_free.specs.declared.calling.Denial.TheVariants as denial
use Rattle.lock_free.specs.declared.rules.View.{View}
use Rattle.lock_free.specs.Accesses as access
use Rattle.lock_free.specs.Calling.{HasCalled}
use Rattle.lock_free.specs.Denials as lf
use Rattle.lock_free.specs.Denials.{ClosesTellHandles, DenialsTellHandles, TellsDenial}
use Rattle.lock_free.specs.Numbers.{reserving, without_number}
use Rattle.lock_free.specs.Places.{AreSizes}
use Rattle.lock_free.specs.SeatCalls.{IsNoHandle, WasDenied}
use Rattle.lock_free.specs.Seated.{HasGoneOn, Seated}
use Rattle.lock_free.specs.Telling.{history_of}
use Rattle.lock_free.specs.WholeCalls.{FoundNoHandle, WasDeniedCopy}
use Rattle.concurrent_map.specs.Handles.{WasNoHandle, WasNoHandleYet, WasNotOpen, WasOpenTo}
use Rattle.concurrent_map.specs.Seats.{state_of_seat}

-- ---- what is said of views is so of their seats

module _ (s t : Seated) (on : HasGoneOn s t) (handle : ℕ) where
  pub open_to : (allows : Access) → access.WasOpenAt s.view handle allows t.view → WasOpenTo (state_of_seat s) handle allows (state_of_seat t)
  open_to allows is =
      subst (λ z. access.WasOpen (hash_of s.view.sizes.hash) handle allows (history_of s.view.sizes s.view.account) (history_of z t.view.account)) (sym on.sizes) is

  not_open : lf.WasNotOpenAt s.view handle t.view → WasNotOpen (state_of_seat s) handle (state_of_seat t)
  not_open is = subst (λ z. lf.WasNotOpen (hash_of s.view.sizes.hash) handle (history_of s.view.sizes s.view.account) (history_of z t.view.account)) (sym on.sizes) is

  no_handle_yet : TellsDenial s.view handle denial.NoHandle t.view → WasNoHandleYet (state_of_seat s) handle (state_of_seat t)
  no_handle_yet (inl high) = inl (inl high)
  no_handle_yet (inr (inl is)) = inl (inr (not_open is))
  no_handle_yet (inr (inr offered)) = inr offered

  pub no_handle : ClosesTellHandles → AreSizes s.view.sizes → FoundNoHandle s.view handle t.view → WasNoHandle (state_of_seat s) handle (state_of_seat t)
  no_handle closes sizes (inl high) = inl high
  no_handle closes sizes (inr found) = inr (not_open (closes s.view t.view handle (omega arith, sizes.some, sizes.many) found))

-- ---- why a call is denied

module _ (s t : Seated) (denials : DenialsTellHandles) (sizes : AreSizes s.view.sizes) (on : HasGoneOn s t) (call : Call) where
  told_by : (why : Denial) → WasDenied s.view call why t.view → TellsDenial s.view (handle_of call) why t.view
  told_by why was = denials s.view t.view call why (omega arith, sizes.some, sizes.many) was.reason

  pub none_yet : WasDenied s.view call denial.NoHandle t.view → WasNoHandleYet (state_of_seat s) (handle_of call) (state_of_seat t)
  none_yet was = no_handle_yet s t on (handle_of call) (told_by denial.NoHandle was)

  pub for_readers : WasDenied s.view call denial.ReadOnly t.view → WasOpenTo (state_of_seat s) (handle_of call) ReadOnly (state_of_seat t)
  for_readers was = open_to s t on (handle_of call) ReadOnly (told_by denial.ReadOnly was)

  pub for_writers : WasDenied s.view call denial.NotReadOnly t.view → WasOpenTo (state_of_seat s) (handle_of call) Writable (state_of_seat t)
  for_writers was = open_to s t on (handle_of call) Writable (told_by denial.NotReadOnly was)

  -- of a copy, for which a number was reserved
  given_back : (number : ℕ) (at : View) (why : Denial) → TellsDenial (reserving s.view number) (handle_of call) why at → TellsDenial s.view (handle_of call) why (without_number at)
  given_back number at denial.NoHandle is = is
  given_back number at denial.ReadOnly is = is
  given_back number at denial.NotReadOnly is = is

  copy_by : (why : Denial) → IsNoHandle call why ⊎ ((number : ℕ) × (at : View) × HasCalled (reserving s.view number) call (Err why) at × (t.view ≡ without_number at)) →
      TellsDenial s.view (handle_of call) why t.view
  copy_by why (inl none) = denials s.view t.view call why (omega arith, sizes.some, sizes.many) (inl none)
  copy_by why (inr (number, at, called, is)) =
      subst (TellsDenial s.view (handle_of call) why) (sym is)
      (given_back number at why (denials (reserving s.view number) at call why (omega arith, sizes.some, sizes.many) (inr called)))

  pub none_yet_to_copy : WasDeniedCopy s.view call denial.NoHandle t.view → WasNoHandleYet (state_of_seat s) (handle_of call) (state_of_seat t)
  none_yet_to_copy was = no_handle_yet s t on (handle_of call) (copy_by denial.NoHandle was.reason)

  pub copy_for_readers : WasDeniedCopy s.view call denial.ReadOnly t.view → WasOpenTo (state_of_seat s) (handle_of call) ReadOnly (state_of_seat t)
  copy_for_readers was = open_to s t on (handle_of call) ReadOnly (copy_by denial.ReadOnly was.reason)

  pub copy_for_writers : WasDeniedCopy s.view call denial.NotReadOnly t.view → WasOpenTo (state_of_seat s) (handle_of call) Writable (state_of_seat t)
  copy_for_writers was = open_to s t on (handle_of call) Writable (copy_by denial.NotReadOnly was.reason)
