-- What is told of a call in a number of tries, once its number is given back where it was refused.
use Rattle.std.proofs.Common.{◌≡◌, ◌≤◌, ℕ, Bool, true, false, is_some, inl, inr, Option, Some, None, Result, Ok, Err, IfOk, IfErr, refl, sym, ap, subst, ◌∙◌}
use Rattle.std.proofs.lemmas.Bool.{false≢true}
use Rattle.history.specs.declared.calls.Call.{Call}
use Rattle.history.specs.declared.calls.Call.TheVariants.{Snapshot, Freeze}
use Rattle.history.specs.declared.replies.Reply.{Reply}
use Rattle.history.specs.declared.replies.Reply.TheVariants as reply
use Rattle.atomic_table.specs.Seated.{TableId}
use Rattle.history.specs.declared.calls.Access.{Access}
use Rattle.machine_model.specs.declared.operations.Operation.{Operation}
use Rattle.machine_model.specs.Calls.{handle_of, opens_handle}
use Rattle.machine_model.specs.States.{handle_limit}
use Rattle.lock_free.specs.declared.call_errors.CallError.{CallError}
use Rattle.lock_free.specs.declared.call_errors.CallError.TheVariants as error
use Rattle.lock_free.specs.declared.call_runs.Ran.{Ran}
use Rattle.lock_free.specs.declared.call_runs.Ran.TheVariants as ran
use Rattle.lock_free.specs.declared.calling.Denial.{Denial}
use Rattle.lock_free.specs.declared.calling.Denial.TheVariants as denial
use Rattle.lock_free.specs.declared.parking.Parked.{Parked}
use Rattle.lock_free.specs.declared.rules.View.{View}
use Rattle.lock_free.specs.Answering.{HasAnswered}
use Rattle.lock_free.specs.Attempts.{IsTried}
use Rattle.lock_free.specs.BegunCalls.{with_number, HasReservedFor, WasDeniedSo}
use Rattle.lock_free.specs.Calling.{HasCalled}
use Rattle.lock_free.specs.KeyReplies.{FitsCall, FitsError, TellsHandle}
use Rattle.lock_free.specs.Loading.{IsSound, Runs}
use Rattle.lock_free.specs.Numbers.{reserving, without_number}
use Rattle.lock_free.specs.SeatCalls.{error_of, told_by, IsTold, WasDenied, WasRefused}
use Rattle.lock_free.specs.Stocks.{IsStock, Stocked}
use Rattle.lock_free.specs.Telling.{SeatsAreExplained}
use Rattle.lock_free.specs.TriedCalls.{settled, tried_by, HasRunTry, HasTold, HasTriedCall, HoldsNumber, IsParkedCall, NeverBegan, IsToldBy, IsToldHandle}
use Rattle.lock_free.specs.UnderWay.{HasLeftBy, HasLeftWith, HasReplied, HasRunBy, HasRunOut, HasRunWith, IsUnderWay}
use Rattle.lock_free.specs.WholeCalls.{IsToldCopy, RestsWith, SameSeat, WasDeniedCopy, WasRefusedCopy}
use Rattle.lock_free.proofs.CallBegins.{denied_waited}
use Rattle.lock_free.proofs.CallsDenied.{no_handle_denied}
use Rattle.lock_free.proofs.CallsUnderWay.{denied_so, plain_left, replied_told}
use Rattle.lock_free.proofs.GivenNumbers.{answered_first, answered_then, lacking, no_handle_told, reserved_rests, reserved_stock, returned_stock}
use Rattle.lock_free.proofs.KeyKinds.{counts_or, reply_opens, told_fits}
use Rattle.lock_free.proofs.WhyRefused.{denied_fits, replied_fits}

-- ---- the number is given back

answered_settled : (v w : View) (c : Call) (opens : Option ℕ) (answer : Reply) → HasAnswered v c opens answer w → (number : Option ℕ) (result : Ran) →
    HasAnswered v c opens answer (settled number result w)
answered_settled v w c opens answer h (Some n) (ran.Told (Err why)) = answered_then v w opens c answer h
answered_settled v w c opens answer h (Some n) (ran.Told (Ok told)) = h
answered_settled v w c opens answer h (Some n) (ran.UnderWay access p) = h
answered_settled v w c opens answer h None result = h

replied_settled : (v w : View) (c : Call) (opens : Option ℕ) (told : Result Reply CallError) → HasReplied v c opens told w → (number : Option ℕ) (result : Ran) →
    HasReplied v c opens told (settled number result w)
replied_settled v w c opens told h number result =
    record { answer = h.answer; lack = h.lack; lacks = h.lacks; is = h.is; its = answered_settled v w c opens h.answer h.its number result }

same_returned : (v w : View) → SameSeat v w → SameSeat v (without_number w)
same_returned v w s = record { sizes = s.sizes; actor = s.actor; last = s.last; goes_on = s.goes_on }

pub settled_left : (v w : View) (c : Call) (opens : Option ℕ) (result : Ran) → HasLeftWith v c opens result w → HasLeftBy v c result (settled opens result w)
settled_left v w c None result h = plain_left v c result w h
settled_left v w c (Some n) (ran.Told (Ok answer)) h = record { same = h.0; rests = h.1 }
settled_left v w c (Some n) (ran.Told (Err why)) h =
    record { same = same_returned v w h.0; rests = record { idle = h.1.idle; pin = h.1.pin; entered = h.1.entered; opens_it = refl } }
settled_left v w c (Some n) (ran.UnderWay access p) h = (h.0, h.1)

pub settled_owns : (w : View) (opens : Option ℕ) (result : Ran) → HoldsNumber w opens result → (stock : Stocked) → IsStock stock w → IsStock stock (settled opens result w)
settled_owns w (Some n) (ran.Told (Err why)) rests stock owns = returned_stock w (Some n) rests stock owns
settled_owns w (Some n) (ran.Told (Ok answer)) rests stock owns = owns
settled_owns w (Some n) (ran.UnderWay access p) rests stock owns = owns
settled_owns w None result rests stock owns = owns

pub holds_left : (v w : View) (c : Call) (opens : Option ℕ) (result : Ran) → HasLeftWith v c opens result w → HoldsNumber w opens result
holds_left v w c opens (ran.Told told) h = h.1
holds_left v w c opens (ran.UnderWay access p) h = tt

-- ---- what is told

handle_fits : (c : Call) (number : ℕ) → opens_handle c ≡ true → FitsCall c (reply.Opened number)
handle_fits (Snapshot h) number e = tt
handle_fits (Freeze h) number e = tt
handle_fits c number e = absurd (false≢true e)

told_so : (v x : View) (c : Call) (told : Result Reply CallError) (b : Bool) → b ≡ opens_handle c → IsToldBy b v c told x → IfOk told (FitsCall c) → IfErr told (FitsError c) → HasTold v c told x
told_so v x c told b e h fits why = record { is = subst (λ z. IsToldBy z v c told x) e h; fits = fits; why = why }

refused_copy : (v x : View) (c : Call) → opens_handle c ≡ true → (why : CallError) → WasRefusedCopy v c why x → FitsError c why → HasTold v c (Err why) x
refused_copy v x c opens why h fits = told_so v x c (Err why) true (sym opens) h tt fits

refused_plain : (v x : View) (c : Call) → opens_handle c ≡ false → (why : CallError) → WasRefused v c None why x → FitsError c why → HasTold v c (Err why) x
refused_plain v x c plain why h fits = told_so v x c (Err why) false (sym plain) h tt fits

module _ (n : ℕ) (v x : View) (sound : IsSound n x) (explained : SeatsAreExplained) (c : Call) (tried : IsTried c) where
  -- the handle by which it stands in the history
  module _ (opens : opens_handle c ≡ true) (number : ℕ) where
    handle_told : (told : Result Reply CallError) → HasReplied v c (Some number) told x → HasTold v c told x
    handle_told told h = elim (counts_or h.answer) [
      | inl refused ↦
          (let is : told ≡ Err h.lack = h.is ∙ ap (λ a. told_by a h.lack) refused in
          subst (λ t. HasTold v c t x) (sym is)
          (refused_copy v x c opens h.lack (lacking v x c h.lack h.lacks (number, subst (λ a. HasAnswered v c (Some number) a x) refused h.its))
          (subst (λ t. IfErr t (FitsError c)) is (replied_fits n v x sound explained c tried (Some number) told h))))
      | inr counts ↦
          (let (m, number_is, answer_is) = reply_opens n v x sound explained c (Some number) h.answer h.its opens counts in
          let is : told ≡ Ok (reply.Opened m) = h.is ∙ ap (λ a. told_by a h.lack) answer_is in
          let its = subst (λ o. HasAnswered v c o (reply.Opened m) x) number_is (subst (λ a. HasAnswered v c (Some number) a x) answer_is h.its) in
          subst (λ t. HasTold v c t x) (sym is) (told_so v x c (Ok (reply.Opened m)) true (sym opens) its (handle_fits c m opens) tt))
    ]

  -- or it opens none
  plain_told : opens_handle c ≡ false → (told : Result Reply CallError) → HasReplied v c None told x → HasTold v c told x
  plain_told plain told h =
      let its = replied_told v c told x h in
      told_so v x c told false (sym plain) its.0 (told_fits n v x sound explained c tried told its.0 its.1) (replied_fits n v x sound explained c tried None told h)

  pub replied_by : (opens : Option ℕ) → opens_handle c ≡ is_some opens → (told : Result Reply CallError) → HasReplied v c opens told x → HasTold v c told x
  replied_by None is told h = plain_told is told h
  replied_by (Some number) is told h = handle_told is number told h

-- ---- it goes on

-- which call it is that is under way
going_call : (u w : View) (c : Call) (number : Option ℕ) (access : Access) (p : Parked) → HasLeftWith u c number (ran.UnderWay access p) w → (o : Operation) → Runs w o → o.call ≡ c
going_call u w c number access p h o runs = (h.1.called o runs).0

module _ (n : ℕ) (v w : View) (c : Call) (tried : IsTried c) (explained : SeatsAreExplained) where
  pub settled_run : (opens : Option ℕ) → opens_handle c ≡ is_some opens → (number : Option ℕ) (result : Ran) → IsSound n (settled number result w) → HasRunBy v c opens result w →
      (u : View) → HasLeftWith u c number result w → HasRunTry v c result (settled number result w)
  settled_run opens is number (ran.Told told) sound h u left =
      let x = settled number (ran.Told told) w in replied_by n v x sound explained c tried opens is told (replied_settled v w c opens told h number (ran.Told told))
  settled_run opens is (Some m) (ran.UnderWay access p) sound h u left = record { opens = opens; number = is; is = h; its = going_call u w c (Some m) access p left }
  settled_run opens is None (ran.UnderWay access p) sound h u left = record { opens = opens; number = is; is = h; its = going_call u w c None access p left }

-- ---- a new one

-- for which a number is reserved, or none
answered_with : (opens : Option ℕ) (v w : View) (c : Call) (answer : Reply) → HasAnswered (with_number opens v) c opens answer w → HasAnswered v c opens answer w
answered_with None v w c answer h = h
answered_with (Some number) v w c answer h = answered_first v w number c answer h

pub with_rests : (v : View) (opens : Option ℕ) → RestsWith v None → RestsWith (with_number opens v) opens
with_rests v None rests = rests
with_rests v (Some number) rests = reserved_rests v number rests

pub with_stock : (v : View) (opens : Option ℕ) → RestsWith v None → (stock : Stocked) → IsStock stock v → IsStock stock (with_number opens v)
with_stock v None rests stock owns = owns
with_stock v (Some number) rests stock owns = reserved_stock v number rests stock owns

pub with_actor : (v : View) (opens : Option ℕ) → (with_number opens v).actor ≡ v.actor
with_actor v None = refl
with_actor v (Some number) = refl

pub with_few : (v : View) (opens : Option ℕ) → v.actor ≤ v.sizes.seats → (with_number opens v).actor ≤ (with_number opens v).sizes.seats
with_few v None few = few
with_few v (Some number) few = few

same_with : (v w : View) (opens : Option ℕ) → SameSeat (with_number opens v) w → SameSeat v w
same_with v w None s = s
same_with v w (Some number) s = record { sizes = s.sizes; actor = s.actor; last = s.last; goes_on = s.goes_on }

pub left_with : (v w : View) (opens : Option ℕ) (c : Call) (result : Ran) → HasLeftBy (with_number opens v) c result w → HasLeftBy v c result w
left_with v w opens c (ran.Told told) h = record { same = same_with v w opens h.same; rests = h.rests }
left_with v w opens c (ran.UnderWay access p) h = (same_with v w opens h.0, h.1)

-- it has run out of tries before its begin
pub ran_out_with : (v w : View) (opens : Option ℕ) (result : Ran) → HasRunOut (with_number opens v) result w → HasRunOut v result (settled opens result w)
ran_out_with v w None result h = h
ran_out_with v w (Some number) (ran.Told (Ok answer)) h = h
ran_out_with v w (Some number) (ran.Told (Err why)) h = h
ran_out_with v w (Some number) (ran.UnderWay access p) h = absurd h

module _ (n : ℕ) (v : View) (rests : RestsWith v None) (c : Call) (tried : IsTried c) (explained : SeatsAreExplained) (w : View) where
  -- it opens a handle
  module _ (number : ℕ) (opens : opens_handle c ≡ true) where
    refused_so : (why : Denial) → HasCalled (reserving v number) c (Err why) w → WasDeniedCopy v c why (without_number w)
    refused_so why h =
        record { waited = denied_waited (reserving v number) (Some number) (reserved_rests v number rests) c why w h; reason = inr (number, w, h, refl) }

    refused_by : (why : Denial) → HasCalled (reserving v number) c (Err why) w → WasRefusedCopy v c (error_of why) (without_number w)
    refused_by denial.NoHandle h = refused_so denial.NoHandle h
    refused_by denial.ReadOnly h = refused_so denial.ReadOnly h
    refused_by denial.NotReadOnly h = refused_so denial.NotReadOnly h

    opened_denied : (why : CallError) → WasDeniedSo (reserving v number) c why w → HasTold v c (Err why) (without_number w)
    opened_denied why h =
        refused_copy v (without_number w) c opens why (subst (λ e. WasRefusedCopy v c e (without_number w)) (sym h.1) (refused_by h.0 h.2)) (denied_fits (reserving v number) c why w h)

  denied_with : (opens : Option ℕ) → opens_handle c ≡ is_some opens → (why : CallError) → WasDeniedSo (with_number opens v) c why w → HasTold v c (Err why) (settled opens (ran.Told (Err why)) w)
  denied_with None is why h = refused_plain v w c is why (denied_so v rests c why w h) (denied_fits v c why w h)
  denied_with (Some number) is why h = opened_denied number is why h

  under_with : (opens : Option ℕ) → IsUnderWay (with_number opens v) c opens w → IsUnderWay v c opens w
  under_with opens under late after answer on at ended = answered_with opens v after c answer (under late after answer on at ended)

  replied_with : (opens : Option ℕ) (told : Result Reply CallError) → HasReplied (with_number opens v) c opens told w → HasReplied v c opens told w
  replied_with opens told h = record { answer = h.answer; lack = h.lack; lacks = h.lacks; is = h.is; its = answered_with opens v w c h.answer h.its }

  pub run_first : (opens : Option ℕ) → opens_handle c ≡ is_some opens → (result : Ran) → IsSound n (settled opens result w) → HasRunWith (with_number opens v) c opens result w →
      HasLeftWith (with_number opens v) c opens result w → HasRunTry v c result (settled opens result w)
  run_first opens is (ran.Told told) sound (inl h) left =
      settled_run n v w c tried explained opens is opens (ran.Told told) sound (replied_with opens told h) (with_number opens v) left
  run_first opens is (ran.Told (Ok answer)) sound (inr h) left = absurd h
  run_first opens is (ran.Told (Err why)) sound (inr h) left = denied_with opens is why h
  run_first opens is (ran.UnderWay access p) sound h left =
      settled_run n v w c tried explained opens is opens (ran.UnderWay access p) sound (under_with opens h) (with_number opens v) left

-- a call that opens none: there is no such handle, or it was denied
module _ (v : View) (c : Call) (plain : opens_handle c ≡ false) where
  pub no_handle_plain : handle_limit ≤ handle_of c → HasTold v c (Err error.NoHandle) v
  no_handle_plain high = refused_plain v v c plain error.NoHandle (no_handle_denied v c high) tt

  pub denied_plain : RestsWith v None → (why : CallError) (x : View) → WasDeniedSo v c why x → (told : Result Reply CallError) → told ≡ Err why → HasTold v c told x
  denied_plain rests why x h told is = subst (λ t. HasTold v c t x) (sym is) (refused_plain v x c plain why (denied_so v rests c why x h) (denied_fits v c why x h))

-- there is no such handle, or no number
pub unreserved : (v x : View) (c : Call) (why : CallError) → HasReservedFor v c (Err why) x → HasTold v c (Err why) x
unreserved v x c error.NoHandle (is, none) = by (opens_handle c) refl
  where
    by : (b : Bool) → opens_handle c ≡ b → HasTold v c (Err error.NoHandle) x
    by true e = refused_copy v x c e error.NoHandle (subst (λ y. WasDeniedCopy v c denial.NoHandle y) (sym is) (no_handle_told v c none.1)) tt
    by false e = refused_plain v x c e error.NoHandle (subst (λ y. WasDenied v c denial.NoHandle y) (sym is) (no_handle_denied v c none.1)) tt
unreserved v x c error.HandlesFull (is, opens) = refused_copy v x c opens error.HandlesFull is opens
unreserved v x c why h = absurd h

pub unreserved_is : (v x : View) (c : Call) (why : CallError) → HasReservedFor v c (Err why) x → x ≡ v
unreserved_is v x c error.NoHandle h = h.0
unreserved_is v x c error.HandlesFull h = h.0
unreserved_is v x c why h = absurd h

-- ---- so its seat is told

pub has_tried : (before w : View) (c : Call) (then : TableId) (result : Ran) → HasRunTry before c result w → HasTriedCall before c (tried_by (record { table = then; view = w }) result)
has_tried before w c then (ran.Told told) h = h
has_tried before w c then (ran.UnderWay access p) h = h

pub never_began : (before w : View) (then : TableId) (result : Ran) → HasRunOut before result w → NeverBegan before (tried_by (record { table = then; view = w }) result)
never_began before w then (ran.Told told) h = h
never_began before w then (ran.UnderWay access p) h = absurd h

-- ---- as long as it takes

-- whatever call is under way is so still
abbrev pub StaysParked : View → View → Type 0
StaysParked v w = SameSeat v w × ((before : View) (c : Call) → IsTried c → IsParkedCall before c v → IsParkedCall before c w)

-- a call that opens none is told its reply
pub told_plain : (v x : View) (c : Call) → opens_handle c ≡ false → (told : Result Reply CallError) → HasTold v c told x → IsTold (λ r. r) v c told x
told_plain v x c plain told h = subst (λ b. IsToldBy b v c told x) plain h.is

-- a copy is told its handle
module _ (v x : View) (c : Call) (opens : opens_handle c ≡ true) (told : Result Reply CallError) (h : HasTold v c told x) where
  pub told_handle : IsToldHandle v c told x
  told_handle = subst (λ b. IsToldBy b v c told x) opens h.is

  pub told_refused : (why : CallError) → told ≡ Err why → IsToldCopy v c (Err why) x
  told_refused why is = subst (λ t. IsToldHandle v c t x) is told_handle

  module _ (answer : Reply) (is : told ≡ Ok answer) where
    abbrev its : IsToldHandle v c (Ok answer) x
    its = subst (λ t. IsToldHandle v c t x) is told_handle

    pub tells_handle : TellsHandle answer
    tells_handle = by answer its
      where
        by : (a : Reply) → IsToldHandle v c (Ok a) x → TellsHandle a
        by (reply.Opened n) h = tt
        by a h = absurd h

    pub told_number : (n : ℕ) → answer ≡ reply.Opened n → IsToldCopy v c (Ok n) x
    told_number n e = subst (λ a. IsToldHandle v c (Ok a) x) e its
