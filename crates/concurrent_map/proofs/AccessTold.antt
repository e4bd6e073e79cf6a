-- What a seat is told of a handle, in the words of histories.
use Rattle.std.proofs.Common.{◌≡◌, ◌⊎◌, inl, inr, ℕ, None, Result, Ok, Err, subst}
use Rattle.history.specs.declared.calls.Access.{Access}
use Rattle.history.specs.declared.calls.Access.TheVariants.{Writable, ReadOnly}
use Rattle.history.specs.declared.calls.Call.TheVariants.{Count}
use Rattle.lock_free.specs.declared.call_errors.CallError.{CallError}
use Rattle.lock_free.specs.Accesses as lf
use Rattle.lock_free.specs.Answers.{OthersTellNothing}
use Rattle.lock_free.specs.Denials.{DenialsTellHandles}
use Rattle.lock_free.specs.Places.{AreSizes}
use Rattle.lock_free.specs.SeatCalls as plain
use Rattle.lock_free.specs.Seated.{HasGoneOn, Seated}
use Rattle.lock_free.specs.Telling.{HistoriesGoOn}
use Rattle.concurrent_map.specs.Accesses.{IsToldAccess}
use Rattle.concurrent_map.specs.Calls.{RanOut}
use Rattle.concurrent_map.specs.Seats.{SeatState, state_of_seat}
use Rattle.concurrent_map.proofs.HandlesTold.{none_yet, open_to}
use Rattle.concurrent_map.proofs.Told.{was_answered, was_not_made}

module _ (go_on : HistoriesGoOn) (others : OthersTellNothing) (denials : DenialsTellHandles) (s t : Seated) (sizes : AreSizes s.view.sizes) (on : HasGoneOn s t) where
  access_so : (handle : ℕ) (result : Result Access CallError) → lf.IsToldAccess s.view handle result t.view → IsToldAccess (state_of_seat s) handle result (state_of_seat t)
  access_so handle (Ok Writable) (denied, there) = (was_not_made s t go_on others sizes on denied.waited, open_to s t on handle Writable there)
  access_so handle (Ok ReadOnly) (answered, there) = (was_answered s t (Count handle) None _ on answered, open_to s t on handle ReadOnly there)
  access_so handle (Err why) (is, denied) = (is, was_not_made s t go_on others sizes on denied.waited, none_yet s t denials sizes on (Count handle) denied)

  -- where the seat was this one, and the handle is that one
  module _ (before : SeatState) (seat : state_of_seat s ≡ before) (asked handle : ℕ) (same : asked ≡ handle) (result : Result Access CallError) where
    pub told_access : lf.IsToldAccess s.view asked result t.view → IsToldAccess before handle result (state_of_seat t)
    told_access is =
        subst (λ b. IsToldAccess b handle result (state_of_seat t)) seat (subst (λ h. IsToldAccess (state_of_seat s) h result (state_of_seat t)) same (access_so asked result is))

    pub access_or_out : lf.IsToldAccess s.view asked result t.view ⊎ plain.RanOut s.view result t.view → IsToldAccess before handle result (state_of_seat t) ⊎ RanOut before result (state_of_seat t)
    access_or_out (inl is) = inl (told_access is)
    access_or_out (inr (out, waited)) = inr (subst (λ b. RanOut b result (state_of_seat t)) seat (out, was_not_made s t go_on others sizes on waited))
