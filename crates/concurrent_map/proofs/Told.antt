-- What a seat is told, in the words of histories.
use Rattle.std.proofs.Common.{arith, ◌≡◌, ◌⊎◌, inl, inr, refl, sym, ap, subst, ◌∙◌, ℕ, Bool, Option, None, Some, Result, Ok, Err}
use Rattle.history.specs.declared.calls.Call.{Call}
use Rattle.history.specs.declared.replies.Reply.{Reply}
use Rattle.lock_free.specs.declared.call_errors.CallError.{CallError}
use Rattle.lock_free.specs.declared.call_errors.CallError.TheVariants as error
use Rattle.lock_free.specs.declared.rules.View.{View}
use Rattle.lock_free.specs.Accounts.{HasWaited}
use Rattle.lock_free.specs.Answering.{HasAnswered}
use Rattle.lock_free.specs.Answers.{answers_of, OthersTellNothing}
use Rattle.lock_free.specs.Denials.{ClosesTellHandles, DenialsTellHandles}
use Rattle.lock_free.specs.GetRuns as get
use Rattle.lock_free.specs.Places.{AreSizes}
use Rattle.lock_free.specs.SeatCalls as lf
use Rattle.lock_free.specs.Seated.{HasGoneOn, Seated}
use Rattle.lock_free.specs.SlotWaits as waits
use Rattle.lock_free.specs.Telling.{history_of, GoesOn, HistoriesGoOn}
use Rattle.lock_free.specs.WholeCalls as whole
use Rattle.concurrent_map.specs.Calls.{IsSameSeat, IsTold, IsToldAtLast, IsToldAtOnce, IsToldClose, IsToldHandle, IsToldHandleAtLast, IsToldIfSome, IsToldIfSomeAtLast, RanOut}
use Rattle.concurrent_map.specs.Calls.{WasAnswered, WasNotMade, WasRefused, WasTriedInVain}
use Rattle.concurrent_map.specs.Seats.{SeatState, state_of_seat}
use Rattle.concurrent_map.proofs.HandlesTold.{copy_for_readers, copy_for_writers, for_readers, for_writers, no_handle, none_yet, none_yet_to_copy}
use Rattle.concurrent_map.proofs.SameMap.{same_id}

same : (s t : Seated) → HasGoneOn s t → IsSameSeat (state_of_seat s) (state_of_seat t)
same s t on = record { map = same_id (state_of_seat t).map (state_of_seat s).map on.table on.sizes; number = on.actor }

history_goes_on : (s t : Seated) → HistoriesGoOn → AreSizes s.view.sizes → HasGoneOn s t → GoesOn (state_of_seat s).history (state_of_seat t).history
history_goes_on s t go_on sizes on =
    subst (λ z. GoesOn (history_of s.view.sizes s.view.account) (history_of z t.view.account)) (sym on.sizes)
    (go_on s.view.sizes s.view.account t.view.account (omega arith, sizes.some, sizes.many) on.goes_on)

pub was_answered : (s t : Seated) (call : Call) (opens : Option ℕ) (reply : Reply) → HasGoneOn s t → HasAnswered s.view call opens reply t.view →
    WasAnswered (state_of_seat s) call opens reply (state_of_seat t)
was_answered s t call opens reply on it = record {
  same = same s t on;
  id = it.id;
  earlier = it.earlier;
  meanwhile = it.meanwhile;
  since = it.since;
  is = it.is;
  others = it.others;
  answers = it.answers;
}

pub was_not_made : (s t : Seated) → HistoriesGoOn → OthersTellNothing → AreSizes s.view.sizes → HasGoneOn s t → HasWaited s.view.actor s.view.account t.view.account →
    WasNotMade (state_of_seat s) (state_of_seat t)
was_not_made s t go_on others sizes on waited = record {
  same = same s t on;
  goes_on = history_goes_on s t go_on sizes on;
  answers =
      ap (λ a. answers_of a t.view.sizes t.view.account) on.actor ∙ ap (λ z. answers_of s.view.actor z t.view.account) on.sizes
      ∙ others s.view.actor s.view.sizes s.view.account t.view.account (omega arith, sizes.some, sizes.many) waited;
}

-- ---- calls without a handle of their own

pub denied : (s t : Seated) (call : Call) → HistoriesGoOn → OthersTellNothing → DenialsTellHandles → AreSizes s.view.sizes → HasGoneOn s t → (why : CallError) →
    lf.WasRefused s.view call None why t.view → WasRefused (state_of_seat s) call None why (state_of_seat t)
denied s t call go_on others denials sizes on error.NoHandle was = (was_not_made s t go_on others sizes on was.waited, none_yet s t denials sizes on call was)
denied s t call go_on others denials sizes on error.ReadOnly was = (was_not_made s t go_on others sizes on was.waited, for_readers s t denials sizes on call was)
denied s t call go_on others denials sizes on error.NotReadOnly was = (was_not_made s t go_on others sizes on was.waited, for_writers s t denials sizes on call was)
denied s t call go_on others denials sizes on error.Crowded was = was_answered s t call None _ on was
denied s t call go_on others denials sizes on error.Full was = was_answered s t call None _ on was
denied s t call go_on others denials sizes on error.Spent was = was_answered s t call None _ on was
denied s t call go_on others denials sizes on error.WornOut was = was_answered s t call None _ on was
denied s t call go_on others denials sizes on error.Memory was = was_answered s t call None _ on was
denied s t call go_on others denials sizes on error.HandlesFull was = elim was [ ]
denied s t call go_on others denials sizes on error.Busy was = elim was [ ]

-- ---- what is told, where the seat is this one and the call is that one

pub told_reply_of : {A : Type 0} → (reply_of : A → Reply) → (s t : Seated) (call : Call) (result : Result A CallError) → HistoriesGoOn → OthersTellNothing → DenialsTellHandles →
    AreSizes s.view.sizes → HasGoneOn s t → lf.IsTold reply_of s.view call result t.view → IsTold reply_of (state_of_seat s) call result (state_of_seat t)
told_reply_of {A} reply_of s t call (Ok told) go_on others denials sizes on is = was_answered s t call None _ on is
told_reply_of {A} reply_of s t call (Err why) go_on others denials sizes on is = denied s t call go_on others denials sizes on why is

pub told_reply : {A : Type 0} → (reply_of : A → Reply) → (s t : Seated) (before : SeatState) (asked call : Call) (result : Result A CallError) →
    state_of_seat s ≡ before → asked ≡ call → HistoriesGoOn → OthersTellNothing → DenialsTellHandles → AreSizes s.view.sizes → HasGoneOn s t →
    lf.IsTold reply_of s.view asked result t.view → IsTold reply_of before call result (state_of_seat t)
told_reply {A} reply_of s t before asked call result seat same_call go_on others denials sizes on is =
    subst (λ b. IsTold reply_of b call result (state_of_seat t)) seat
    (subst (λ k. IsTold reply_of (state_of_seat s) k result (state_of_seat t)) same_call (told_reply_of reply_of s t asked result go_on others denials sizes on is))

told_some : (s t : Seated) (call : Call) (result : Result Bool CallError) → HistoriesGoOn → OthersTellNothing → DenialsTellHandles → AreSizes s.view.sizes → HasGoneOn s t →
    lf.IsToldIfSome s.view call result t.view → IsToldIfSome (state_of_seat s) call result (state_of_seat t)
told_some s t call (Ok told) go_on others denials sizes on (value, is, it) = (value, is, was_answered s t call None _ on it)
told_some s t call (Err why) go_on others denials sizes on is = denied s t call go_on others denials sizes on why is

-- or that it has not begun
pub told_or_out : {A : Type 0} → (reply_of : A → Reply) → (s t : Seated) (before : SeatState) (asked call : Call) (result : Result A CallError) →
    state_of_seat s ≡ before → asked ≡ call → HistoriesGoOn → OthersTellNothing → DenialsTellHandles → AreSizes s.view.sizes → HasGoneOn s t →
    lf.IsTold reply_of s.view asked result t.view ⊎ lf.RanOut s.view result t.view → IsTold reply_of before call result (state_of_seat t) ⊎ RanOut before result (state_of_seat t)
told_or_out {A} reply_of s t before asked call result seat same_call go_on others denials sizes on (inl is) =
    inl (told_reply reply_of s t before asked call result seat same_call go_on others denials sizes on is)
told_or_out {A} reply_of s t before asked call result seat same_call go_on others denials sizes on (inr (out, waited)) =
    inr (out, subst (λ b. WasNotMade b (state_of_seat t)) seat (was_not_made s t go_on others sizes on waited))

-- ---- copies

stayed : (s t : Seated) → HasGoneOn s t → t.view ≡ s.view → state_of_seat t ≡ state_of_seat s
stayed s t on e =
    ap (λ (v : View). state_of_seat (record { table = t.table; view = v })) e ∙ ap (λ table. state_of_seat (record { table = table; view = s.view })) on.table

pub denied_copy : (s t : Seated) (call : Call) → HistoriesGoOn → OthersTellNothing → DenialsTellHandles → AreSizes s.view.sizes → HasGoneOn s t → (why : CallError) →
    whole.WasRefusedCopy s.view call why t.view → (opens : Option ℕ) × WasRefused (state_of_seat s) call opens why (state_of_seat t)
denied_copy s t call go_on others denials sizes on error.NoHandle was = (None, (was_not_made s t go_on others sizes on was.waited, none_yet_to_copy s t denials sizes on call was))
denied_copy s t call go_on others denials sizes on error.ReadOnly was = (None, (was_not_made s t go_on others sizes on was.waited, copy_for_readers s t denials sizes on call was))
denied_copy s t call go_on others denials sizes on error.NotReadOnly was = (None, (was_not_made s t go_on others sizes on was.waited, copy_for_writers s t denials sizes on call was))
denied_copy s t call go_on others denials sizes on error.HandlesFull was = (None, stayed s t on was)
denied_copy s t call go_on others denials sizes on error.Full (number, was) = (Some number, was_answered s t call (Some number) _ on was)
denied_copy s t call go_on others denials sizes on error.Spent (number, was) = (Some number, was_answered s t call (Some number) _ on was)
denied_copy s t call go_on others denials sizes on error.WornOut (number, was) = (Some number, was_answered s t call (Some number) _ on was)
denied_copy s t call go_on others denials sizes on error.Crowded was = elim was [ ]
denied_copy s t call go_on others denials sizes on error.Busy was = elim was [ ]
denied_copy s t call go_on others denials sizes on error.Memory was = elim was [ ]

pub told_copy : (s t : Seated) (call : Call) (result : Result ℕ CallError) → HistoriesGoOn → OthersTellNothing → DenialsTellHandles → AreSizes s.view.sizes → HasGoneOn s t →
    whole.IsToldCopy s.view call result t.view → IsToldHandle (state_of_seat s) call result (state_of_seat t)
told_copy s t call (Ok handle) go_on others denials sizes on is = was_answered s t call (Some handle) _ on is
told_copy s t call (Err why) go_on others denials sizes on is = denied_copy s t call go_on others denials sizes on why is

-- ---- the last try of a call

-- the seat, as it was before its last try
abbrev at_last : Seated → View → Seated
at_last s last = record { table = s.table; view = last }

first_part : (s : Seated) (last : View) → whole.SameSeat s.view last → HasGoneOn s (at_last s last)
first_part s last m = record { table = refl; sizes = m.sizes; actor = m.actor; last = m.last; goes_on = m.goes_on }

last_part : (s t : Seated) (last : View) → HasGoneOn s t → whole.SameSeat last t.view → HasGoneOn (at_last s last) t
last_part s t last on m = record { table = on.table; sizes = m.sizes; actor = m.actor; last = m.last; goes_on = m.goes_on }

last_sizes : (s : Seated) (last : View) → whole.SameSeat s.view last → AreSizes s.view.sizes → AreSizes last.sizes
last_sizes s last m sizes = subst AreSizes (sym m.sizes) sizes

tried_in_vain : (s : Seated) (call : Call) (last : View) → HistoriesGoOn → AreSizes s.view.sizes → waits.HasTriedInVain s.view call last →
    WasTriedInVain (state_of_seat s) call (state_of_seat (at_last s last))
tried_in_vain s call last go_on sizes h =
    let on = first_part s last h.same in
    record { same = same s (at_last s last) on; goes_on = history_goes_on s (at_last s last) go_on sizes on; refusals = h.refusals; answers = h.answers; of_call = h.of_call }

told_last : {A : Type 0} → (reply_of : A → Reply) → (s t : Seated) (call : Call) (result : Result A CallError) → HistoriesGoOn → OthersTellNothing → DenialsTellHandles → AreSizes s.view.sizes →
    HasGoneOn s t → waits.IsToldAtLast reply_of s.view call result t.view → IsToldAtLast reply_of (state_of_seat s) call result (state_of_seat t)
told_last {A} reply_of s t call result go_on others denials sizes on (last, in_vain, m, is) = (
  state_of_seat (at_last s last),
  tried_in_vain s call last go_on sizes in_vain,
  told_reply_of reply_of (at_last s last) t call result go_on others denials (last_sizes s last in_vain.same sizes) (last_part s t last on m) is,
)

pub told_at_last : {A : Type 0} → (reply_of : A → Reply) → (s t : Seated) (before : SeatState) (asked call : Call) (result : Result A CallError) →
    state_of_seat s ≡ before → asked ≡ call → HistoriesGoOn → OthersTellNothing → DenialsTellHandles → AreSizes s.view.sizes → HasGoneOn s t →
    waits.IsToldAtLast reply_of s.view asked result t.view → IsToldAtLast reply_of before call result (state_of_seat t)
told_at_last {A} reply_of s t before asked call result seat same_call go_on others denials sizes on is =
    subst (λ b. IsToldAtLast reply_of b call result (state_of_seat t)) seat
    (subst (λ k. IsToldAtLast reply_of (state_of_seat s) k result (state_of_seat t)) same_call (told_last reply_of s t asked result go_on others denials sizes on is))

some_last : (s t : Seated) (call : Call) (result : Result Bool CallError) → HistoriesGoOn → OthersTellNothing → DenialsTellHandles → AreSizes s.view.sizes → HasGoneOn s t →
    get.IsToldIfSomeAtLast s.view call result t.view → IsToldIfSomeAtLast (state_of_seat s) call result (state_of_seat t)
some_last s t call result go_on others denials sizes on (last, in_vain, m, is) = (
  state_of_seat (at_last s last),
  tried_in_vain s call last go_on sizes in_vain,
  told_some (at_last s last) t call result go_on others denials (last_sizes s last in_vain.same sizes) (last_part s t last on m) is,
)

pub told_if_some_at_last : (s t : Seated) (before : SeatState) (asked call : Call) (result : Result Bool CallError) →
    state_of_seat s ≡ before → asked ≡ call → HistoriesGoOn → OthersTellNothing → DenialsTellHandles → AreSizes s.view.sizes → HasGoneOn s t →
    get.IsToldIfSomeAtLast s.view asked result t.view → IsToldIfSomeAtLast before call result (state_of_seat t)
told_if_some_at_last s t before asked call result seat same_call go_on others denials sizes on is =
    subst (λ b. IsToldIfSomeAtLast b call result (state_of_seat t)) seat
    (subst (λ k. IsToldIfSomeAtLast (state_of_seat s) k result (state_of_seat t)) same_call (some_last s t asked result go_on others denials sizes on is))

handle_last : (s t : Seated) (call : Call) (result : Result ℕ CallError) → HistoriesGoOn → OthersTellNothing → DenialsTellHandles → AreSizes s.view.sizes → HasGoneOn s t →
    waits.IsToldCopyAtLast s.view call result t.view → IsToldHandleAtLast (state_of_seat s) call result (state_of_seat t)
handle_last s t call result go_on others denials sizes on (last, in_vain, m, is) = (
  state_of_seat (at_last s last),
  tried_in_vain s call last go_on sizes in_vain,
  told_copy (at_last s last) t call result go_on others denials (last_sizes s last in_vain.same sizes) (last_part s t last on m) is,
)

pub told_handle : (s t : Seated) (before : SeatState) (asked call : Call) (told result : Result ℕ CallError) →
    state_of_seat s ≡ before → asked ≡ call → result ≡ told → HistoriesGoOn → OthersTellNothing → DenialsTellHandles → AreSizes s.view.sizes → HasGoneOn s t →
    waits.IsToldCopyAtLast s.view asked told t.view → IsToldHandleAtLast before call result (state_of_seat t)
told_handle s t before asked call told result seat same_call same_told go_on others denials sizes on is =
    subst (λ r. IsToldHandleAtLast before call r (state_of_seat t)) (sym same_told)
    (subst (λ b. IsToldHandleAtLast b call told (state_of_seat t)) seat
    (subst (λ k. IsToldHandleAtLast (state_of_seat s) k told (state_of_seat t)) same_call (handle_last s t asked told go_on others denials sizes on is)))

-- ---- a get that is made at once

at_once : (s t : Seated) (call : Call) (result : Option (Option ℕ)) → HistoriesGoOn → OthersTellNothing → AreSizes s.view.sizes → HasGoneOn s t →
    get.IsToldAtOnce s.view call result t.view → IsToldAtOnce (state_of_seat s) call result (state_of_seat t)
at_once s t call (Some value) go_on others sizes on is = was_answered s t call None _ on is
at_once s t call None go_on others sizes on (inl refused) = inl (was_answered s t call None _ on refused)
at_once s t call None go_on others sizes on (inr waited) = inr (was_not_made s t go_on others sizes on waited)

pub told_at_once : (s t : Seated) (before : SeatState) (asked call : Call) (result : Option (Option ℕ)) →
    state_of_seat s ≡ before → asked ≡ call → HistoriesGoOn → OthersTellNothing → AreSizes s.view.sizes → HasGoneOn s t →
    get.IsToldAtOnce s.view asked result t.view → IsToldAtOnce before call result (state_of_seat t)
told_at_once s t before asked call result seat same_call go_on others sizes on is =
    subst (λ b. IsToldAtOnce b call result (state_of_seat t)) seat
    (subst (λ k. IsToldAtOnce (state_of_seat s) k result (state_of_seat t)) same_call (at_once s t asked result go_on others sizes on is))

-- ---- a close

told_shut : {A : Type 0} → (s t : Seated) (handle : ℕ) (result : Result A CallError) → HistoriesGoOn → OthersTellNothing → ClosesTellHandles → AreSizes s.view.sizes → HasGoneOn s t →
    whole.IsToldClose s.view handle result t.view → IsToldClose (state_of_seat s) handle result (state_of_seat t)
told_shut {A} s t handle (Ok done) go_on others closes sizes on is = was_answered s t _ None _ on is
told_shut {A} s t handle (Err error.NoHandle) go_on others closes sizes on (waited, found) =
    (was_not_made s t go_on others sizes on waited, no_handle s t on handle closes sizes found)
told_shut {A} s t handle (Err error.Busy) go_on others closes sizes on is = was_not_made s t go_on others sizes on is
told_shut {A} s t handle (Err error.ReadOnly) go_on others closes sizes on is = elim is [ ]
told_shut {A} s t handle (Err error.NotReadOnly) go_on others closes sizes on is = elim is [ ]
told_shut {A} s t handle (Err error.Crowded) go_on others closes sizes on is = elim is [ ]
told_shut {A} s t handle (Err error.Full) go_on others closes sizes on is = elim is [ ]
told_shut {A} s t handle (Err error.Spent) go_on others closes sizes on is = elim is [ ]
told_shut {A} s t handle (Err error.HandlesFull) go_on others closes sizes on is = elim is [ ]
told_shut {A} s t handle (Err error.WornOut) go_on others closes sizes on is = elim is [ ]
told_shut {A} s t handle (Err error.Memory) go_on others closes sizes on is = elim is [ ]

pub told_close : {A : Type 0} → (s t : Seated) (before : SeatState) (asked handle : ℕ) (result : Result A CallError) →
    state_of_seat s ≡ before → asked ≡ handle → HistoriesGoOn → OthersTellNothing → ClosesTellHandles → AreSizes s.view.sizes → HasGoneOn s t →
    whole.IsToldClose s.view asked result t.view → IsToldClose before handle result (state_of_seat t)
told_close {A} s t before asked handle result seat same_handle go_on others closes sizes on is =
    subst (λ b. IsToldClose b handle result (state_of_seat t)) seat
    (subst (λ h. IsToldClose (state_of_seat s) h result (state_of_seat t)) same_handle (told_shut s t asked result go_on others closes sizes on is))
