-- A seat closes a handle.
use Rattle.std.proofs.Common.{◌≡◌, ℕ, [], ◌∷◌, None, sym, ap, subst, ◌∙◌}
use Rattle.history.specs.declared.calls.Call.TheVariants.{Close}
use Rattle.machine_model.specs.declared.steps.Step.TheVariants as step
use Rattle.lock_free.specs.declared.closing.Shut.{Shut}
use Rattle.lock_free.specs.declared.closing.Shut.TheVariants as shut
use Rattle.lock_free.specs.declared.rules.View.{View}
use Rattle.lock_free.specs.Accounts.{HasWaited}
use Rattle.lock_free.specs.Closing.{FoundClosed, HasClosedIt, HasShut, Watched}
use Rattle.lock_free.specs.Seated.{IsResting}
use Rattle.lock_free.specs.SeatWords.{unpinned, IsIdle}
use Rattle.lock_free.specs.WholeCalls.{HasLeft, SameSeat}
use Rattle.lock_free.proofs.BetweenCalls.{same_saw, same_seats}
use Rattle.lock_free.proofs.Followings.{goes_both}
use Rattle.lock_free.proofs.Shutting.{idle_seen, watched_saw}

-- it has looked, and taken no step
pub leaves_watched : (v w : View) → IsResting v → Watched v w → HasLeft v w
leaves_watched v w r h =
    let is = h.rests.is in
    record {
      same = subst (λ x. SameSeat v x) (sym is) (let s = same_saw v h.at h.saw in record { sizes = s.sizes; actor = s.actor; last = s.last; goes_on = s.goes_on });
      rests = record {
        idle = subst IsIdle (sym is) (idle_seen v h.at h.saw r.idle);
        pin = ap (λ (x : View). x.pin) is;
        entered = ap (λ (x : View). x.entered) is;
        opens_it = ap (λ (x : View). x.opens) is ∙ ap (λ (x : View). x.opens) h.saw.after_is ∙ r.opens;
      };
    }

pub waited_watched : (v w : View) → Watched v w → HasWaited v.actor v.account w.account
waited_watched v w h =
    subst (λ a. HasWaited v.actor v.account a) (sym (ap (λ (x : View). x.account) h.rests.is ∙ ap (λ (x : View). x.account) h.saw.after_is)) h.saw.waited.waited

-- it found it closed
pub leaves_found : (v w : View) (handle : ℕ) → IsResting v → FoundClosed v handle w → HasLeft v w
leaves_found v w handle r f = leaves_watched v w r (watched_saw v w f.saw r)

pub waited_found : (v w : View) (handle : ℕ) → FoundClosed v handle w → HasWaited v.actor v.account w.account
waited_found v w handle f = subst (λ a. HasWaited v.actor v.account a) (sym (ap (λ (x : View). x.account) f.saw.after_is)) f.saw.waited.waited

-- it has closed it
pub leaves_closed : (v w : View) (handle : ℕ) → IsResting v → HasClosedIt v handle w → HasLeft v w
leaves_closed v w handle r h =
    let p = h.closes in
    let s = p.shut.shuts in
    let steps = s.waited.waited in
    let first = same_saw v h.at h.saw in
    let is : w ≡ _ = p.after_is ∙ ap unpinned p.shut.released.kept.is in
    record {
      same = same_seats v h.at w first (record {
        sizes = ap (λ (x : View). x.sizes) is ∙ ap (λ (x : View). x.sizes) s.after_is;
        actor = ap (λ (x : View). x.actor) is ∙ ap (λ (x : View). x.actor) s.after_is;
        last = ap (λ (x : View). x.last) is ∙ ap (λ (x : View). x.last) s.after_is;
        goes_on = goes_both h.at.account.steps s.account.steps w.account.steps (steps.steps, steps.goes_on)
            (step.Begin h.at.actor (Close handle) None ∷ step.Go h.at.actor ∷ [], ap (λ (x : View). x.account.steps) is ∙ ap (λ (x : View). x.account.steps) s.after_is);
      });
      rests = record {
        idle = subst IsIdle (sym is) s.idle;
        pin = ap (λ (x : View). x.pin) is;
        entered = ap (λ (x : View). x.entered) is;
        opens_it = ap (λ (x : View). x.opens) is ∙ ap (λ (x : View). x.opens) s.after_is ∙ ap (λ (x : View). x.opens) h.saw.after_is ∙ r.opens;
      };
    }

-- ---- either way

pub leaves_shut : (v w : View) (handle : ℕ) (result : Shut) → IsResting v → HasShut v handle result w → HasLeft v w
leaves_shut v w handle shut.Closed r h = leaves_closed v w handle r h
leaves_shut v w handle shut.Busy r h = leaves_watched v w r h
leaves_shut v w handle shut.NoHandle r h = leaves_found v w handle r h
