-- The number that is reserved for the handle which a call opens: along the call, and once that is over.
use Rattle.std.proofs.Common.{◌≡◌, ℕ, Bool, true, false, is_some, Option, Some, None, Result, Ok, Err, refl, sym, ap, subst, ◌∙◌}
use Rattle.std.specs.Prelude.{if◌then◌else◌}
use Rattle.std.proofs.lemmas.Bool.{false≢true}
use Rattle.std.proofs.lemmas.Option.{none-some}
use Rattle.history.specs.declared.calls.Access.{Access}
use Rattle.history.specs.declared.calls.Call.{Call}
use Rattle.history.specs.declared.calls.Call.TheVariants.{Snapshot, Freeze}
use Rattle.history.specs.declared.replies.Reply.{Reply}
use Rattle.history.specs.declared.replies.Reply.TheVariants as reply
use Rattle.machine_model.specs.declared.lines.Line.TheVariants as line
use Rattle.machine_model.specs.declared.operations.Operation.{Operation}
use Rattle.machine_model.specs.Calls.{copies, opens_handle}
use Rattle.machine_model.specs.GivingUp.{tells_effect}
use Rattle.machine_model.specs.Machine.{number_for}
use Rattle.machine_model.specs.States.{State}
use Rattle.lock_free.specs.declared.call_errors.CallError.{CallError}
use Rattle.lock_free.specs.declared.leaving.Swapping.{Swapping}
use Rattle.lock_free.specs.declared.parking.Parked.{Parked}
use Rattle.lock_free.specs.declared.parking.Parked.TheVariants as parked
use Rattle.lock_free.specs.declared.reading.Way.{Way}
use Rattle.lock_free.specs.declared.rules.View.{View}
use Rattle.lock_free.specs.Accounts.{bounds_for}
use Rattle.lock_free.specs.Calling.{HasCalled}
use Rattle.lock_free.specs.Holding.{IsOn}
use Rattle.lock_free.specs.Leaving.{IsSwapLeft}
use Rattle.lock_free.specs.Loading.{Runs}
use Rattle.lock_free.specs.Parking.{opens_of, IsParked}
use Rattle.lock_free.specs.SeatCalls.{told_by}
use Rattle.lock_free.specs.SeatWords.{left_by, HasEnded}
use Rattle.lock_free.specs.Seeking.{IsCalled}
use Rattle.lock_free.specs.UnderWay.{number_left}
use Rattle.lock_free.specs.WholeCalls.{RestsWith}
use Rattle.lock_free.proofs.CallBegins as call
use Rattle.lock_free.proofs.Comings.{runs_one}
use Rattle.lock_free.proofs.CopyEnds.{copy_fits_line, ends_marked, EndsCopies, Fits}

-- ---- the operation opens the number that is reserved

number_so : (state : State) (b : Bool) (p : Option ℕ) → b ≡ is_some p → (if b then Some (number_for state p) else None) ≡ p
number_so state true (Some n) e = refl
number_so state false (Some n) e = absurd (false≢true e)
number_so state true None e = absurd (false≢true (sym e))
number_so state false None e = refl

pub opens_first : (v : View) (opens : Option ℕ) (rests : RestsWith v opens) (c : Call) → opens_handle c ≡ is_some opens → (way : Way) (u : View) (begun : HasCalled v c (Ok way) u) →
    (call.first v opens rests c way u begun).opens ≡ opens
opens_first v opens rests c number way u begun = number_so _ (opens_handle c) v.opens (number ∙ ap is_some (sym rests.opens_it)) ∙ rests.opens_it

-- a copy opens this number, and no other call opens one
pub record IsNumber (c : Call) (o : Operation) (opens : Option ℕ) : Type 0 where
  pub plain : copies c ≡ false → opens ≡ None
  pub copied : copies c ≡ true → o.opens ≡ opens

pub opens_none : (c : Call) → copies c ≡ false → opens_handle c ≡ false
opens_none (Snapshot h) e = absurd (false≢true (sym e))
opens_none (Freeze h) e = absurd (false≢true (sym e))
opens_none c e = refl

none_for : (opens : Option ℕ) → is_some opens ≡ false → opens ≡ None
none_for None e = refl
none_for (Some n) e = absurd (false≢true (sym e))

pub plain_none : (c : Call) (opens : Option ℕ) → opens_handle c ≡ is_some opens → copies c ≡ false → opens ≡ None
plain_none c opens number plain = none_for opens (sym number ∙ opens_none c plain)

pub number_begun : (c : Call) (o : Operation) (opens : Option ℕ) → opens_handle c ≡ is_some opens → o.opens ≡ opens → IsNumber c o opens
number_begun c o opens number is = record { plain = plain_none c opens number; copied = λ e. is }

pub keyed_number : (c : Call) (o : Operation) → copies c ≡ false → IsNumber c o None
keyed_number c o keyed = record { plain = λ e. refl; copied = λ e. absurd (false≢true (sym keyed ∙ e)) }

pub copier_of : (c : Call) (o : Operation) (opens : Option ℕ) → IsNumber c o opens → (n : ℕ) → opens ≡ Some n → copies c ≡ true
copier_of c o opens is n e = by (copies c) refl
  where
    by : (b : Bool) → copies c ≡ b → copies c ≡ true
    by true copier = copier
    by false plain = absurd (none-some n (sym (is.plain plain) ∙ e))

-- ---- what is under way of it

module _ (w : View) (c : Call) (access : Access) (called : IsCalled w c access) where
  -- a copy does no SWAP
  never_swaps : copies c ≡ true → (s : Swapping) → IsSwapLeft w s → ⊥
  never_swaps copier s left =
      let o = left.its.operation in
      let runs = left.its.runs in
      let is : copies o.call ≡ true = ap copies (called o runs).0 ∙ copier in
      subst (Fits o.call runs.0) left.its.line_is (copy_fits_line (bounds_for w.sizes w.account.steps) w.account.steps w.actor (record o { is_marked = runs.0 }) runs.1 is)

  swap_none : (o : Operation) (opens : Option ℕ) → IsNumber c o opens → (s : Swapping) → IsSwapLeft w s → opens ≡ None
  swap_none o opens is s left = by (copies c) refl
    where
      by : (b : Bool) → copies c ≡ b → opens ≡ None
      by true copier = absurd (never_swaps copier s left)
      by false plain = is.plain plain

  pub parked_number : (o : Operation) → Runs w o → (opens : Option ℕ) → IsNumber c o opens → (p : Parked) → IsParked w p → opens ≡ opens_of p
  parked_number o runs opens is (parked.Repairs s) its = swap_none o opens is s its.0
  parked_number o runs opens is (parked.Changes s former) its = swap_none o opens is s its.0
  parked_number o runs opens is (parked.Climbs s former) its = swap_none o opens is s its.0
  parked_number o runs opens is (parked.Copies s number) its =
      let q = its.is.at.0 in
      let copier : copies c ≡ true = ap copies (sym (called q its.is.at.1).0) ∙ its.copies in
      sym (is.copied copier) ∙ ap (λ (z : Operation). z.opens) (runs_one w o q runs its.is.at.1) ∙ its.number

  -- where it is under way so, the operation opens that
  pub number_parked : (p : Parked) → IsParked w p → (o : Operation) → Runs w o → IsNumber c o (opens_of p)
  number_parked (parked.Repairs s) its o runs = record { plain = λ e. refl; copied = λ copier. absurd (never_swaps copier s its.0) }
  number_parked (parked.Changes s former) its o runs = record { plain = λ e. refl; copied = λ copier. absurd (never_swaps copier s its.0) }
  number_parked (parked.Climbs s former) its o runs = record { plain = λ e. refl; copied = λ copier. absurd (never_swaps copier s its.0) }
  number_parked (parked.Copies s number) its o runs =
      let q = its.is.at.0 in
      let copier : copies c ≡ true = ap copies (sym (called q its.is.at.1).0) ∙ its.copies in
      record {
        plain = λ e. absurd (false≢true (sym e ∙ copier));
        copied = λ e. ap (λ (z : Operation). z.opens) (runs_one w o q runs its.is.at.1) ∙ its.number;
      }

-- ---- it is over

none_left : (told : Result Reply CallError) → number_left None told ≡ None
none_left (Ok answer) = refl
none_left (Err why) = refl

-- a copy that was made has its handle, and one that was refused leaves the number
copy_left : (k : Call) (n : ℕ) (answer : Reply) (lack : CallError) → EndsCopies answer → left_by (tells_effect k answer) (Some n) ≡ number_left (Some n) (told_by answer lack)
copy_left k n (reply.Opened number) lack fits = refl
copy_left k n reply.Cleared lack fits = refl
copy_left k n reply.NoSlots lack fits = refl
copy_left k n reply.Crowded lack fits = absurd fits
copy_left k n (reply.Found value) lack fits = absurd fits
copy_left k n (reply.Truth truth) lack fits = absurd fits
copy_left k n reply.Closed lack fits = absurd fits
copy_left k n (reply.Pairs pairs) lack fits = absurd fits
copy_left k n (reply.Count count) lack fits = absurd fits

module _ (w x : View) (answer : Reply) (c : Call) (access : Access) (called : IsCalled w c access) (e : HasEnded w answer x) (lack : CallError) where
  pub left_number : (opens : Option ℕ) → ((n : ℕ) → opens ≡ Some n → copies c ≡ true) → IsOn w (line.End answer) →
      left_by e.operation.is_marked opens ≡ number_left opens (told_by answer lack)
  left_number None copier on = call.left_none e.operation.is_marked ∙ sym (none_left (told_by answer lack))
  left_number (Some n) copier (q, runs, ends) =
      let is : copies q.call ≡ true = ap copies (called q runs).0 ∙ copier n refl in
      let same = e.its q runs in
      let its : copies e.operation.call ≡ true = ap copies (ap (λ (z : Operation). z.call) same) ∙ is in
      let line_is : e.operation.line ≡ line.End answer = ap (λ (z : Operation). z.line) same ∙ ends in
      let mark = ends_marked (bounds_for w.sizes e.account.steps) e.account.steps w.actor e.operation answer e.runs its line_is in
      let fits = subst (Fits e.operation.call e.operation.is_marked) line_is (copy_fits_line (bounds_for w.sizes e.account.steps) e.account.steps w.actor e.operation e.runs its) in
      ap (λ m. left_by m (Some n)) mark ∙ copy_left e.operation.call n answer lack fits.1
