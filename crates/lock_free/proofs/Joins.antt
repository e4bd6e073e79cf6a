-- A seat that takes in another one knows that this one makes no access any more.
use Rattle.std.proofs.Common.{◌≡◌, ◌≤◌, ◌++◌, ℕ, None, sym, ap, subst, ◌∙◌, arith, append_assoc}
use Rattle.machine_model.specs.States.{operation_of}
use Rattle.lock_free.specs.declared.accounts.Account.{Account}
use Rattle.lock_free.specs.declared.rules.Heard.{Heard}
use Rattle.lock_free.specs.declared.rules.View.{View}
use Rattle.lock_free.specs.Accounts.{state_of}
use Rattle.lock_free.specs.Alone.{LoneMoment, WasLeft}
use Rattle.lock_free.specs.Finishing.{seen_by, unoffered, HasHeard, HasHeardMore}
use Rattle.lock_free.specs.Joining.{HasJoined}
use Rattle.lock_free.specs.Limbos.{hanging_of}
use Rattle.lock_free.specs.Loading.{now, seen, IsSound}
use Rattle.lock_free.specs.Rules.{HasActor, IsSeat, WasGivenUp}
use Rattle.lock_free.specs.Seated.{HasGoneOn, IsResting, IsSeated, Seated}
use Rattle.lock_free.specs.SeatWords.{IsIdle}
use Rattle.lock_free.specs.Stocks.{Stocked}
use Rattle.lock_free.specs.Telling.{GoesOn}
use Rattle.lock_free.specs.Watching.{HasWatched}
use Rattle.lock_free.proofs.BetweenCalls.{idle_stock}
use Rattle.lock_free.proofs.OneStep.Idle.{idle_stays}

-- ---- at the access after it has heard of the other one

module _ (v w mid : View) (more : HasHeardMore v mid) (h : HasHeard mid w) (same_sizes : w.sizes ≡ v.sizes) (rests : IsResting w) (word found : ℕ) (m : LoneMoment mid word found) where
  abbrev account : Account
  account = m.kept.account

  abbrev then : View
  then = seen mid account

  seat : IsSeat mid.sizes account m.kept.stands m.table.words mid
  seat = m.kept.seats m.id mid m.at

  sizes_are : mid.sizes ≡ v.sizes
  sizes_are = ap (λ (x : View). x.sizes) more.is

  mid_account : mid.account ≡ v.account
  mid_account = ap (λ (x : View). x.account) more.is

  abbrev heard : Heard
  heard = seen_by w (unoffered h.account)

  given : WasGivenUp m.table.views heard
  given = m.heard heard h.it

  -- what the other one had seen came before
  came_before : GoesOn heard.account.steps account.steps
  came_before =
      let waited = (m.kept.seats given.id given.view given.at).waited in
      (waited.steps, waited.goes_on ∙ ap (λ (x : Account). x.steps ++ waited.steps) given.account)

  rested : operation_of (state_of mid.sizes heard.account) heard.actor ≡ None
  rested =
      idle_stays mid.sizes w.actor w.account h.account h.waited (omega arith, m.kept.bounds.1, m.kept.bounds.2)
      (subst (λ z. operation_of (state_of z w.account) w.actor ≡ None) (same_sizes ∙ sym sizes_are) rests.idle)

  left_then : (a : ℕ) → HasActor w a → WasLeft then a
  left_then a has = record { heard = heard; its = h.it; low = has.0; top = has.1; idle = rested; since = came_before }

  goes_on_then : GoesOn v.account.steps account.steps
  goes_on_then = subst (λ (x : Account). GoesOn x.steps account.steps) mid_account (seat.waited.steps, seat.waited.goes_on)

  still_then : (a : ℕ) → WasLeft v a → WasLeft then a
  still_then a l = record {
    heard = l.heard;
    its = more.all l.heard l.its;
    low = l.low;
    top = l.top;
    idle = subst (λ z. operation_of (state_of z l.heard.account) l.heard.actor ≡ None) (sym sizes_are) l.idle;
    since = (l.since.0 ++ goes_on_then.0, goes_on_then.1 ∙ ap (λ xs. xs ++ goes_on_then.0) l.since.1 ∙ append_assoc l.heard.account.steps l.since.0 goes_on_then.0);
  }

  idle_then : IsIdle v → IsIdle then
  idle_then idle =
      idle_stays mid.sizes mid.actor mid.account account seat.waited m.kept.bounds
      (subst (λ (x : View). operation_of (now x) x.actor ≡ None) (sym more.is) idle)

  joined_then : HasJoined v w then
  joined_then = record {
    is = ap (λ (x : View). record x { account = account }) more.is;
    goes_on = goes_on_then;
    idle = idle_then;
    left = left_then;
    still = still_then;
  }

pub has_joined : (v w mid : View) → HasHeardMore v mid → HasHeard mid w → w.sizes ≡ v.sizes → IsResting w → (word found : ℕ) (after : View) → HasWatched mid word found after → HasJoined v w after
has_joined v w mid more h same rests word found after (m, is) = subst (HasJoined v w) (sym is) (joined_then v w mid more h same rests word found m)

-- ---- the seat

pub joined_seated : (words : ℕ) (v w after : View) → HasJoined v w after → IsSound words after → (number last : ℕ) (stock : Stocked) →
    IsSeated words v number last stock → IsSeated words after number last stock
joined_seated words v w after j sound number last stock s = record {
  sound = sound;
  rests = record {
    idle = j.idle s.rests.idle;
    pin = ap (λ (x : View). x.pin) j.is ∙ s.rests.pin;
    entered = ap (λ (x : View). x.entered) j.is ∙ s.rests.entered;
    opens = ap (λ (x : View). x.opens) j.is ∙ s.rests.opens;
  };
  actors = record {
    low = subst (λ n. 1 ≤ n) (sym (ap (λ (x : View). x.actor) j.is)) s.actors.low;
    top = (let a = ap (λ (x : View). x.actor) j.is in let l = ap (λ (x : View). x.last) j.is in let t = s.actors.top in omega (arith, a, l, t));
    most = (let z = ap (λ (x : View). x.sizes.seats) j.is in let l = ap (λ (x : View). x.last) j.is in let t = s.actors.most in omega (arith, z, l, t));
  };
  its = ap (λ (x : View). x.actor) j.is ∙ s.its;
  its_last = ap (λ (x : View). x.last) j.is ∙ s.its_last;
  owns = idle_stock stock v after s.rests.idle (j.idle s.rests.idle) (ap hanging_of j.is) (ap (λ (x : View). x.pool) j.is) s.owns;
}

pub joined_on : (before after : Seated) → after.table ≡ before.table → (w : View) → HasJoined before.view w after.view → HasGoneOn before after
joined_on before after same w j = record {
  table = same;
  sizes = ap (λ (x : View). x.sizes) j.is;
  actor = ap (λ (x : View). x.actor) j.is;
  last = ap (λ (x : View). x.last) j.is;
  goes_on = j.goes_on;
}
