-- What the caller is told of a call that hasn't begun.
use Rattle.history.specs.declared.calls.Call.{Call}
use Rattle.history.specs.declared.replies.Reply.{Reply}
use Rattle.std.proofs.Common.{◌≡◌, ◌⊎◌, inl, inr, false, None, Result, Err, IfErr, sym, subst}
use Rattle.machine_model.specs.Calls.{is_close}
use Rattle.lock_free.specs.declared.call_errors.CallError.{CallError}
use Rattle.lock_free.specs.declared.rules.View.{View}
use Rattle.lock_free.specs.BegunCalls.{HasTriedToBegin, WasDeniedSo}
use Rattle.lock_free.specs.KeyReplies.{FitsError}
use Rattle.lock_free.specs.SeatCalls.{IsTold, RanOut}
use Rattle.lock_free.specs.WholeCalls.{RestsWith}
use Rattle.lock_free.proofs.CallsBegun.{late_spent, not_begun}
use Rattle.lock_free.proofs.CallsUnderWay.{denied_so}
use Rattle.lock_free.proofs.WhyRefused.{denied_fits}

module _ {A : Type 0} (reply_of : A → Reply) (v : View) (rests : RestsWith v None) (c : Call) (why : CallError) (x : View) (told : Result A CallError) (is : told ≡ Err why) where
  pub denied_told : WasDeniedSo v c why x → IsTold reply_of v c told x
  denied_told h = subst (λ t. IsTold reply_of v c t x) (sym is) (denied_so v rests c why x h)

  pub unbegun_told : HasTriedToBegin v c (Err why) x → IsTold reply_of v c told x ⊎ RanOut v told x
  unbegun_told h = subst (λ t. IsTold reply_of v c t x ⊎ RanOut v t x) (sym is) (elim (not_begun v c why x h) [
    | inl denied ↦ inl (denied_so v rests c why x denied)
    | inr late ↦ inr late
  ])

-- and why not
module _ {A : Type 0} (v : View) (c : Call) (why : CallError) (x : View) (told : Result A CallError) (is : told ≡ Err why) where
  pub denied_why : WasDeniedSo v c why x → IfErr told (FitsError c)
  denied_why h = subst (λ t. IfErr t (FitsError c)) (sym is) (denied_fits v c why x h)

  pub unbegun_why : is_close c ≡ false → HasTriedToBegin v c (Err why) x → IfErr told (FitsError c)
  unbegun_why stays (inl h) = denied_why h
  unbegun_why stays (inr h) = subst (λ t. IfErr t (FitsError c)) (sym is) (subst (FitsError c) (sym (late_spent v why x h)) stays)
