-- What COPY of a call comes to in a number of tries.
use Rattle.std.proofs.Common.{◌≡◌, ◌<◌, ℕ, Bool, true, false, is_some, Option, Some, Ok, refl, sym, ap, subst, ◌∙◌}
use Rattle.history.specs.declared.calls.Access.{Access}
use Rattle.history.specs.declared.calls.Call.{Call}
use Rattle.machine_model.specs.declared.lines.Line.TheVariants as line
use Rattle.machine_model.specs.declared.operations.Operation.{Operation}
use Rattle.machine_model.specs.Calls.{copies, handle_of, opens_handle}
use Rattle.machine_model.specs.Copying.{copied_reply}
use Rattle.machine_model.specs.Lines.{new_try}
use Rattle.machine_model.specs.States.{handle_limit}
use Rattle.lock_free.specs.declared.copy_roots.CopyKind.{CopyKind}
use Rattle.lock_free.specs.declared.leaving.Completing.{Completing}
use Rattle.lock_free.specs.declared.leaving.Left.TheVariants as left
use Rattle.lock_free.specs.declared.parking.Came.TheVariants as came
use Rattle.lock_free.specs.declared.parking.Parked.TheVariants as parked
use Rattle.lock_free.specs.declared.reading.Way.{Way}
use Rattle.lock_free.specs.declared.rules.View.{View}
use Rattle.lock_free.specs.Calling.{HasCalled}
use Rattle.lock_free.specs.CopySteps.{as_before, copied_line, copy_kind, HasCopied, HasLeftCopy, HasMadeCopy, HasSettledCopy, IsAtTry, IsCopying, IsOwnCompleting, LeavesCopy, is_snapshot}
use Rattle.lock_free.specs.Holding.{IsOn}
use Rattle.lock_free.specs.Loading.{Runs}
use Rattle.lock_free.specs.Parking.{HasRunTo, IsCopyLeft, IsToOpenAs}
use Rattle.lock_free.specs.Passing.{IsOnWay}
use Rattle.lock_free.specs.RunningOn.{RunsOn}
use Rattle.lock_free.specs.Seeking.{IsCalled}
use Rattle.lock_free.specs.WholeCalls.{RestsWith}
use Rattle.lock_free.proofs.CallBegins.{first, opens_begun, runs_first}
use Rattle.lock_free.proofs.CallNumbers.{opens_first}
use Rattle.lock_free.proofs.CallsRunOn.{copied_runs_on, copy_full}
use Rattle.lock_free.proofs.Comings.{runs_one}
use Rattle.lock_free.proofs.OwingLater.{still_as}
use Rattle.lock_free.proofs.RunningOn.{still_both, still_later}
use Rattle.lock_free.specs.OwnOffers.{IsOwnCopy, HasMovedOn}
use Rattle.lock_free.proofs.MovedOn.{moved_still}

-- ---- its own offer is settled

pub settled_moved : (u v : View) (done : Bool) → HasCopied u done v → (w : View) → HasMovedOn v w → HasSettledCopy u done w
settled_moved u v done h w moved = record {
  still = still_both u v w (still_as u v (still_later u (as_before u v) h.moved.later)) (moved_still v w moved);
  comes = λ q r. moved.runs (record q { line = copied_line done q }) (h.moved.comes q r);
}

-- ---- what it comes to

module _ (v : View) (o : Operation) (r : Runs v o) (call : Call) (its : o.call ≡ call) (opens : Option ℕ) (number : o.opens ≡ opens) (copier : copies o.call ≡ true) (w : View) where
  settled_runs : (done : Bool) → HasSettledCopy v done w → RunsOn v w
  settled_runs done h = record { still = h.still; runs = λ q s. (record q { line = copied_line done q }, h.comes q s, refl) }

  reply_is : copied_reply o.call o.opens ≡ copied_reply call opens
  reply_is = ap (λ c. copied_reply c o.opens) its ∙ ap (copied_reply call) number

  pub settled_answered : HasSettledCopy v true w → HasRunTo v (came.Answered (copied_reply call opens)) w
  settled_answered h = (settled_runs true h, (record o { line = copied_line true o }, h.comes o r, ap (λ a. line.End a) reply_is))

  pub settled_spent : HasSettledCopy v false w → HasRunTo v came.Spent w
  settled_spent h = (settled_runs false h, (record o { line = copied_line false o }, h.comes o r, refl))

  pub made_answered : HasMadeCopy v true w → HasRunTo v (came.Answered (copied_reply call opens)) w
  made_answered m = (
    copied_runs_on v w true m,
    (let x = m.comes o r in (record o { private = x.0; attempt = x.1; generation = x.2; line = copied_line true o }, x.3, ap (λ a. line.End a) reply_is)),
  )

  pub made_spent : HasMadeCopy v false w → HasRunTo v came.Spent w
  made_spent m = (copied_runs_on v w false m, copy_full v w o r m)

  pub left_spent : (k : CopyKind) (handle : ℕ) → HasLeftCopy v k handle opens left.MayGiveUp w → HasRunTo v came.Spent w
  left_spent k handle (on, may) = let (p, rp, is) = on.runs o r in (on, (p, rp, may p rp))

  pub left_parked : (k : CopyKind) → k ≡ copy_kind call → (handle : ℕ) (s : Completing) → LeavesCopy v k handle opens s w → HasRunTo v (came.Parked (parked.Copies s opens)) w
  left_parked k kind handle s l =
      let (p, rp, same) = l.on.runs o r in
      let one = runs_one w l.is.at.0 p l.is.at.1 rp in
      let call_is : l.is.at.0.call ≡ o.call = ap (λ (z : Operation). z.call) one ∙ ap (λ (z : Operation). z.call) same in
      let opens_is : l.is.at.0.opens ≡ o.opens = ap (λ (z : Operation). z.opens) one ∙ ap (λ (z : Operation). z.opens) same in (
        l.on,
        record {
          handle = handle;
          is = l.is;
          copies = ap copies call_is ∙ copier;
          number = opens_is ∙ number;
          own = subst (λ z. IsOwnCopy w handle s.offer opens (is_snapshot z)) (kind ∙ ap copy_kind (sym its) ∙ ap copy_kind (sym call_is)) l.own;
        },
      )

-- ---- a parked one

module _ (v : View) (s : Completing) (opens : Option ℕ) (p : IsCopyLeft v s opens) (call : Call) (access : Access) (called : IsCalled v call access) where
  pub its_call : p.is.at.0.call ≡ call
  its_call = (called p.is.at.0 p.is.at.1).0

  pub its_completing : (handle : ℕ) → handle ≡ handle_of call → IsOwnCompleting v handle s
  its_completing handle is = subst (λ h. IsOwnCompleting v h s) (sym p.is.on ∙ ap handle_of its_call ∙ sym is) p.is

  pub its_copy : (k : CopyKind) → k ≡ copy_kind call → (handle : ℕ) → handle ≡ handle_of call → IsOwnCopy v handle s.offer opens (is_snapshot k)
  its_copy k is handle on =
      subst (λ z. IsOwnCopy v handle s.offer opens (is_snapshot z)) (ap copy_kind its_call ∙ sym is)
      (subst (λ h. IsOwnCopy v h s.offer opens (is_snapshot (copy_kind p.is.at.0.call))) (sym p.is.on ∙ ap handle_of its_call ∙ sym on) p.own)

-- ---- it begins

pub copying_so : (v : View) (call : Call) (way : Way) (opens : Option ℕ) → IsCalled v call way.access → IsOnWay v way → IsToOpenAs v opens → IsCopying v (copy_kind call) way.handle opens
copying_so v call way opens called on is = record {
  reserved = is.seat;
  low = is.low;
  which = λ o r. ap copy_kind (called o r).0;
  on = λ o r. ((on o r).1, is.operation o r);
}

pub copy_at : (v : View) (call : Call) (access : Access) → IsCalled v call access → copies call ≡ true → IsOn v new_try → IsAtTry v
copy_at v call access called is at = (at.0, at.1, at.2, ap copies (called at.0 at.1).0 ∙ is)

-- ---- a call that has begun

module _ (v : View) (opens : Option ℕ) (rests : RestsWith v opens) (c : Call) (way : Way) (u : View) (h : HasCalled v c (Ok way) u) where
  pub begun_low : handle_of c < handle_limit → way.handle < 256
  begun_low low = subst (λ k. k < 256) (h.3 (first v opens rests c way u h) (runs_first v opens rests c way u h)).1 low

  pub begun_opens : opens_handle c ≡ is_some opens → ((n : ℕ) → opens ≡ Some n → n < 256) → IsToOpenAs u opens
  begun_opens number low = record {
    seat = opens_begun v opens rests c way u h;
    operation = λ o r.
        ap (λ (z : Operation). z.opens) (runs_one u o (first v opens rests c way u h) r (runs_first v opens rests c way u h)) ∙ opens_first v opens rests c number way u h;
    low = low;
  }
