-- A call of a seat from its begin to its end: what is said of it in the history, and of the seat.
use Rattle.history.specs.declared.calls.Call.{Call}
use Rattle.history.specs.declared.replies.Reply.{Reply}
use Rattle.std.proofs.Common.{◌≡◌, ℕ, Bool, true, false, [], ◌∷◌, Option, None, Ok, Err, map, refl, sym, ap, subst, ◌∙◌}
use Rattle.machine_model.specs.declared.actions.Action.TheVariants as act
use Rattle.machine_model.specs.declared.operations.Operation.{Operation}
use Rattle.machine_model.specs.declared.steps.Step.TheVariants as step
use Rattle.lock_free.specs.declared.calling.Denial.{Denial}
use Rattle.lock_free.specs.declared.reading.Way.{Way}
use Rattle.lock_free.specs.declared.rules.Pinned.{Pinned}
use Rattle.lock_free.specs.declared.rules.View.{View}
use Rattle.lock_free.specs.Accounts.{HasWaited}
use Rattle.lock_free.specs.Answering.{HasAnswered}
use Rattle.lock_free.specs.Calling.{first_operation, is_denied, is_opening, HasBegun, HasCalled, IsRefused}
use Rattle.lock_free.specs.Loading.{IsAt, IsSound, Runs, Saw}
use Rattle.lock_free.specs.RunningOn.{RunsOn}
use Rattle.lock_free.specs.SeatWords.{left_by, pinned_for, unpinned, HasEnded, IsIdle}
use Rattle.lock_free.specs.Stocks.{made_of, own_of, IsStock, Stocked}
use Rattle.lock_free.specs.WholeCalls.{RestsWith, SameSeat}
use Rattle.lock_free.specs.Limbos.{hanging_of}
use Rattle.lock_free.proofs.LimboStays.{limbo_so}
use Rattle.lock_free.proofs.Answered.{calls_are_answered}
use Rattle.lock_free.proofs.BetweenCalls.{idle_stock, none_own, same_seats}
use Rattle.lock_free.proofs.Followings.{goes_both}
use Rattle.lock_free.proofs.Shutting.{idle_seen}

-- ---- it runs on

pub same_run : (u w : View) → RunsOn u w → SameSeat u w
same_run u w r = record {
  sizes = ap (λ (z : View). z.sizes) r.still.is;
  actor = ap (λ (z : View). z.actor) r.still.is;
  last = ap (λ (z : View). z.last) r.still.is;
  goes_on = r.still.goes_on;
}

pub opens_run : (u w : View) → RunsOn u w → w.opens ≡ u.opens
opens_run u w r = ap (λ (z : View). z.opens) r.still.is

-- ---- it ends

pub same_ended : (w x : View) (answer : Reply) → HasEnded w answer x → SameSeat w x
same_ended w x answer e = record {
  sizes = ap (λ (z : View). z.sizes) e.after_is;
  actor = ap (λ (z : View). z.actor) e.after_is;
  last = ap (λ (z : View). z.last) e.after_is;
  goes_on = goes_both w.account.steps e.account.steps x.account.steps (e.waited.waited.steps, e.waited.waited.goes_on)
      (step.Go w.actor ∷ [], ap (λ (z : View). z.account.steps) e.after_is);
}

pub rests_ended : (w x : View) (answer : Reply) (opens : Option ℕ) → w.opens ≡ opens → (e : HasEnded w answer x) → RestsWith x (left_by e.operation.is_marked opens)
rests_ended w x answer opens number e = record {
  idle = e.idle;
  pin = ap (λ (z : View). z.pin) e.after_is;
  entered = ap (λ (z : View). z.entered) e.after_is;
  opens_it = ap (λ (z : View). z.opens) e.after_is ∙ ap (left_by e.operation.is_marked) number;
}

-- ---- a call that has begun

module _ (v : View) (opens : Option ℕ) (rests : RestsWith v opens) (call : Call) (way : Way) (u : View) (begun : HasCalled v call (Ok way) u) where
  abbrev pub before : View
  before = pinned_for v begun.0 call

  abbrev pub b : HasBegun before call begun.1 u
  b = begun.2

  abbrev pub first : Operation
  first = first_operation before b.account call

  pub runs_first : Runs u first
  runs_first = (false, b.runs)

  pub same_begun : SameSeat v u
  same_begun = record {
    sizes = ap (λ (z : View). z.sizes) b.after_is;
    actor = ap (λ (z : View). z.actor) b.after_is;
    last = ap (λ (z : View). z.last) b.after_is;
    goes_on = goes_both v.account.steps b.account.steps u.account.steps (b.waited.waited.steps, b.waited.waited.goes_on)
        (step.Begin v.actor call v.opens ∷ [], ap (λ (z : View). z.account.steps) b.after_is);
  }

  pub opens_begun : u.opens ≡ opens
  opens_begun = ap (λ (z : View). z.opens) b.after_is ∙ rests.opens_it

  pub stock_begun : (stock : Stocked) → IsStock stock v → IsStock stock u
  stock_begun stock is = record {
    sizes = is.sizes ∙ ap (λ (z : View). z.sizes) (sym b.after_is);
    pool = is.pool ∙ ap (λ (z : View). z.pool) (sym b.after_is);
    made = is.made ∙ ap (map (made_of v)) (none_own v rests.idle) ∙ ap (map (made_of u)) (sym (ap own_of b.runs));
    limbo = limbo_so stock stock v u is refl (ap hanging_of b.after_is);
  }

  -- and ends
  module _ (w : View) (r : RunsOn u w) (answer : Reply) (at : IsAt w (act.End answer)) (x : View) (e : HasEnded w answer x) where
    pub answered : (n : ℕ) → IsSound n v → IsSound n u → HasAnswered v call opens answer x
    answered n sound then = subst (λ p. HasAnswered v call p answer x) rests.opens_it (calls_are_answered n v u w x call way answer sound begun then r at e)

    pub same_then : SameSeat v x
    same_then = same_seats v u x same_begun (same_seats u w x (same_run u w r) (same_ended w x answer e))

    pub rests_then : RestsWith x (left_by e.operation.is_marked opens)
    rests_then = rests_ended w x answer opens (opens_run u w r ∙ opens_begun) e

-- ---- it has not begun

module _ (v : View) (opens : Option ℕ) (rests : RestsWith v opens) (call : Call) (x : View) (pin : Pinned) (at : View) (saw : Saw (pinned_for v pin call) at) (is : x ≡ unpinned at) where
  pub unpinned_waited : HasWaited v.actor v.account x.account
  unpinned_waited = subst (λ a. HasWaited v.actor v.account a) (sym (ap (λ (z : View). z.account) is ∙ ap (λ (z : View). z.account) saw.after_is)) saw.waited.waited

  pub unpinned_same : SameSeat v x
  unpinned_same = record {
    sizes = ap (λ (z : View). z.sizes) is ∙ ap (λ (z : View). z.sizes) saw.after_is;
    actor = ap (λ (z : View). z.actor) is ∙ ap (λ (z : View). z.actor) saw.after_is;
    last = ap (λ (z : View). z.last) is ∙ ap (λ (z : View). z.last) saw.after_is;
    goes_on = (unpinned_waited.steps, unpinned_waited.goes_on);
  }

  pub unpinned_rests : RestsWith x opens
  unpinned_rests = record {
    idle = subst IsIdle (sym is) (idle_seen (pinned_for v pin call) at saw rests.idle);
    pin = ap (λ (z : View). z.pin) is;
    entered = ap (λ (z : View). z.entered) is;
    opens_it = ap (λ (z : View). z.opens) is ∙ ap (λ (z : View). z.opens) saw.after_is ∙ rests.opens_it;
  }

  pub unpinned_stock : (stock : Stocked) → IsStock stock v → IsStock stock x
  unpinned_stock stock owns =
      idle_stock stock v x rests.idle unpinned_rests.idle (ap hanging_of is ∙ ap hanging_of saw.after_is) (ap (λ (z : View). z.pool) is ∙ ap (λ (z : View). z.pool) saw.after_is) owns

-- ---- it was denied

saw_refused : (v : View) (call : Call) (why : Denial) (after : View) → IsRefused v call why after → Saw v after
saw_refused v call why after (is_denied w x d) = d.0
saw_refused v call why after (is_opening slot x d) = d.0

module _ (v : View) (opens : Option ℕ) (rests : RestsWith v opens) (call : Call) (why : Denial) (x : View) (denied : HasCalled v call (Err why) x) where
  abbrev saw_denied : Saw (pinned_for v denied.0 call) denied.1
  saw_denied = saw_refused (pinned_for v denied.0 call) call why denied.1 denied.2

  pub denied_waited : HasWaited v.actor v.account x.account
  denied_waited = unpinned_waited v opens rests call x denied.0 denied.1 saw_denied denied.3

  pub denied_same : SameSeat v x
  denied_same = unpinned_same v opens rests call x denied.0 denied.1 saw_denied denied.3

  pub denied_rests : RestsWith x opens
  denied_rests = unpinned_rests v opens rests call x denied.0 denied.1 saw_denied denied.3

  pub denied_stock : (stock : Stocked) → IsStock stock v → IsStock stock x
  denied_stock stock owns = unpinned_stock v opens rests call x denied.0 denied.1 saw_denied denied.3 stock owns

-- ---- a call that opens nothing

pub left_none : (mark : Bool) → left_by mark None ≡ None
left_none true = refl
left_none false = refl
