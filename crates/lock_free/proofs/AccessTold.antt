-- What a handle allows is read off whether a count begins.
use Rattle.std.proofs.Common.{◌≡◌, ◌⊎◌, inl, inr, ℕ, true, false, not, is_some, Option, None, Some, Ok, Err, refl, sym, ap, subst}
use Rattle.std.proofs.lemmas.Bool.{true≢false}
use Rattle.history.specs.declared.calls.Access.{Access}
use Rattle.history.specs.declared.calls.Access.TheVariants.{Writable, ReadOnly}
use Rattle.history.specs.declared.calls.Call.TheVariants.{Count}
use Rattle.history.specs.declared.replies.Reply.TheVariants as reply
use Rattle.machine_model.specs.Beneath.ctrie_base.specs.declared.refusals.Refusal.TheVariants as refuse
use Rattle.machine_model.specs.Machine.{access_of, begin_denial, is_access, is_actor, is_running, is_spent}
use Rattle.machine_model.specs.States.{State, root_at}
use Rattle.lock_free.specs.declared.call_errors.CallError.{CallError}
use Rattle.lock_free.specs.declared.calling.Denial.{Denial}
use Rattle.lock_free.specs.declared.calling.Denial.TheVariants as denial
use Rattle.lock_free.specs.declared.reading.Way.{Way}
use Rattle.lock_free.specs.declared.rules.View.{View}
use Rattle.lock_free.specs.Accesses.{access_denied, IsToldAccess}
use Rattle.lock_free.specs.Attempts.{HasEndedWith}
use Rattle.lock_free.specs.BegunCalls.{HasTriedToBegin, WasDeniedSo}
use Rattle.lock_free.specs.Calling.{is_denied, HasCalled}
use Rattle.lock_free.specs.Loading.{now, seen, IsSound}
use Rattle.lock_free.specs.RunningOn.{MayAnswer}
use Rattle.lock_free.specs.SeatCalls.{error_of, RanOut}
use Rattle.lock_free.specs.SeatWords.{pinned_for}
use Rattle.lock_free.specs.Telling.{SeatsAreExplained}
use Rattle.lock_free.specs.WholeCalls.{RestsWith}
use Rattle.lock_free.proofs.CallBegins as call
use Rattle.lock_free.proofs.CallsBegun.{late_spent}
use Rattle.lock_free.proofs.CallsDenied.{denied_so}
use Rattle.lock_free.proofs.CallsRunOn.{at_end}
use Rattle.lock_free.proofs.Followings.{goes_both}
use Rattle.lock_free.proofs.DenialsTold.{denials_tell_handles, open_then}
use Rattle.lock_free.proofs.WhyRefused.{open_by, unread_by, writes_by}

-- ---- what the definition's denials tell

read_only_so : (access : Option Access) → not (is_some access) ≡ false → is_access Writable access ≡ false → access ≡ Some ReadOnly
read_only_so None there plain = absurd (true≢false there)
read_only_so (Some Writable) there plain = absurd (true≢false plain)
read_only_so (Some ReadOnly) there plain = refl

-- of a count
module _ (state : State) (actor handle : ℕ) (opens : Option ℕ) where
  abbrev access : Option Access
  access = access_of (root_at state handle)

  not_read_only : begin_denial state actor (Count handle) opens ≡ Some refuse.ReadOnly → false ≡ true
  not_read_only = writes_by (not (is_actor state actor)) (is_running state actor) (not (is_some access)) false (is_access Writable access) false false (is_spent state)

  begun_read_only : begin_denial state actor (Count handle) opens ≡ None → access ≡ Some ReadOnly
  begun_read_only is =
      read_only_so access (open_by (not (is_actor state actor)) (is_running state actor) (not (is_some access)) false (is_access Writable access) false false (is_spent state) is)
      (unread_by (not (is_actor state actor)) (is_running state actor) (not (is_some access)) false (is_access Writable access) false false (is_spent state) is)

-- ---- a handle is asked

module _ (explained : SeatsAreExplained) (n : ℕ) (v : View) (sound : IsSound n v) (handle : ℕ) where
  module _ (rests : RestsWith v None) where
    -- it hasn't begun
    told_denied : (why : Denial) (x : View) → HasCalled v (Count handle) (Err why) x → IsToldAccess v handle (access_denied (error_of why)) x
    told_denied denial.NoHandle x h = (refl, denied_so v rests (Count handle) denial.NoHandle x h)
    told_denied denial.ReadOnly x (pin, at, is_denied w y (s, is), left) = absurd (true≢false (sym (not_read_only (now (seen (pinned_for v pin (Count handle)) s.account)) v.actor handle v.opens is)))
    told_denied denial.NotReadOnly x h =
        (denied_so v rests (Count handle) denial.NotReadOnly x h, denials_tell_handles explained v x (Count handle) denial.NotReadOnly sound.bounds (inr h))

    pub told_so : (why : CallError) (x : View) → WasDeniedSo v (Count handle) why x → IsToldAccess v handle (access_denied why) x
    told_so why x (d, is, h) = subst (λ e. IsToldAccess v handle (access_denied e) x) (sym is) (told_denied d x h)

    pub told_or_out : (why : CallError) (x : View) → HasTriedToBegin v (Count handle) (Err why) x → IsToldAccess v handle (access_denied why) x ⊎ RanOut v (access_denied why) x
    told_or_out why x (inl h) = inl (told_so why x h)
    told_or_out why x (inr h) = inr (ap access_denied (late_spent v why x h), h.1)

    -- it has begun
    module _ (way : Way) (u : View) (begun : HasCalled v (Count handle) (Ok way) u) (sound_u : IsSound n u) where
      pub asked_may : MayAnswer u reply.NoSlots
      asked_may = (call.first v None rests (Count handle) way u begun, call.runs_first v None rests (Count handle) way u begun, refl)

      pub told_begun : (x : View) → HasEndedWith u reply.NoSlots x → IsToldAccess v handle (Ok ReadOnly) x
      told_begun x e =
          let b = begun.2 in
          let later = goes_both u.account.steps e.late.account.steps x.account.steps (call.same_run u e.late e.on).goes_on (call.same_ended e.late x reply.NoSlots e.ended).goes_on in (
            call.answered v None rests (Count handle) way u begun e.late e.on reply.NoSlots (at_end e.late reply.NoSlots e.ends) x e.ended n sound sound_u,
            open_then explained (pinned_for v begun.0 (Count handle)) sound.bounds handle b.account b.waited x
                (goes_both b.account.steps u.account.steps x.account.steps (_, ap (λ (z : View). z.account.steps) b.after_is) later) ReadOnly
                (begun_read_only (now (seen (pinned_for v begun.0 (Count handle)) b.account)) v.actor handle v.opens b.allowed),
          )
