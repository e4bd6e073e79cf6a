-- A call begins, once the marks that it meets are taken away.
use Rattle.history.specs.declared.calls.Call.{Call}
use Rattle.std.proofs.Common.{◌≡◌, ℕ, None, Result, Ok, Err, refl, sym, subst}
use Rattle.lock_free.specs.declared.accounts.Account.{Account}
use Rattle.lock_free.specs.declared.calling.Denial.{Denial}
use Rattle.lock_free.specs.declared.calling.Denial.TheVariants as denial
use Rattle.lock_free.specs.declared.calling.Started.{Started}
use Rattle.lock_free.specs.declared.calling.Started.TheVariants as started
use Rattle.lock_free.specs.declared.reading.Way.{Way}
use Rattle.lock_free.specs.declared.rules.Pinned.{Pinned}
use Rattle.lock_free.specs.declared.rules.View.{View}
use Rattle.machine_model.specs.Calls.{handle_of}
use Rattle.lock_free.specs.Calling.{is_denied, is_opening, CalledOrNot, HasCalled, HasStarted, IsBeginner, IsCaller, IsRefused}
use Rattle.lock_free.specs.Loading.{seen, IsSound, Saw, Waited}
use Rattle.lock_free.specs.SeatWords.{pinned_for, unpinned}
use Rattle.lock_free.proofs.OneStep.Idle.{idle_stays}
use Rattle.lock_free.proofs.Waiting.{waited_twice}

-- ---- so far it has only seen

-- it is about to begin still
pub record Waits (words : ℕ) (call : Call) (before v : View) : Type 0 where
  pub sound : IsSound words v
  pub beginner : IsBeginner v call
  pub then : (result : Started) (after : View) → HasStarted v call result after → HasStarted before call result after

pub waits_first : (words : ℕ) (call : Call) (before : View) → IsSound words before → IsBeginner before call → Waits words call before before
waits_first words call before sound beginner = record { sound = sound; beginner = beginner; then = λ result after h. h }

-- ---- it has seen more

later_by : (v : View) (call : Call) (first : Account) (w : Waited v first) (result : Started) (after : View) → HasStarted (seen v first) call result after → HasStarted v call result after
later_by v call first w (started.Runs found) after h = record {
  account = h.account;
  waited = waited_twice v first h.account w h.waited;
  after_is = h.after_is;
  allowed = h.allowed;
  runs = h.runs;
  access = h.access;
  fits = h.fits;
  tells = h.tells;
  told = h.told;
}
later_by v call first w (started.Denied why) after h = (record { account = h.0.account; waited = waited_twice v first h.0.account w h.0.waited; after_is = h.0.after_is }, h.1)
later_by v call first w (started.Opening slot) after h = (record { account = h.0.account; waited = waited_twice v first h.0.account w h.0.waited; after_is = h.0.after_is }, h.1, h.2)

beginner_by : (v : View) (call : Call) (first : Account) → Waited v first → IsBeginner v call → IsBeginner (seen v first) call
beginner_by v call first w b = record {
  idle = idle_stays v.sizes v.actor v.account first w.waited w.sound.bounds b.idle;
  asks = b.asks;
  pin = b.pin;
  pinned = b.pinned;
  its = b.its;
  number = b.number;
  stays = b.stays;
}

pub waits_more : (words : ℕ) (call : Call) (before v after : View) → Waits words call before v → IsSound words after → Saw v after → Waits words call before after
waits_more words call before v after h sound s = record {
  sound = sound;
  beginner = subst (λ x. IsBeginner x call) (sym s.after_is) (beginner_by v call s.account s.waited h.beginner);
  then = λ result last k. h.then result last (later_by v call s.account s.waited result last (subst (λ x. HasStarted x call result last) s.after_is k));
}

-- ---- a seat has pinned itself for the call

pub beginner_of : (v : View) (pin : Pinned) (call : Call) → IsCaller v call → pin.pin.handle ≡ handle_of call → IsBeginner (pinned_for v pin call) call
beginner_of v pin call c its = record { idle = c.idle; asks = refl; pin = pin; pinned = refl; its = its; number = c.number; stays = c.stays }

-- ---- so many looks, and so many more

-- the call is still to begin
pub record Calls (words : ℕ) (call : Call) (before v : View) : Type 0 where
  pub sound : IsSound words v
  pub caller : IsCaller v call
  pub actor : v.actor ≡ before.actor
  pub sizes : v.sizes ≡ before.sizes
  pub epoch : v.epoch ≡ before.epoch
  pub then : (result : Result Way Denial) (after : View) → HasCalled v call result after → HasCalled before call result after

pub calls_first : (words : ℕ) (call : Call) (before : View) → IsSound words before → IsCaller before call → Calls words call before before
calls_first words call before sound caller = record { sound = sound; caller = caller; actor = refl; sizes = refl; epoch = refl; then = λ result after h. h }

-- what was seen with one pin is seen with another
with_pin : (v : View) (pin other : Pinned) (call : Call) (account : Account) → Waited (pinned_for v pin call) account → Waited (pinned_for v other call) account
with_pin v pin other call account w = record {
  waited = w.waited;
  sound = record { size = w.sound.size; range = w.sound.range; bounds = w.sound.bounds; keys = w.sound.keys; counted = w.sound.counted; inside = w.sound.inside; free = w.sound.free };
  stays = w.stays;
}

refused_by : (v : View) (call : Call) (first : Account) → Waited v first → (why : Denial) (at : View) → IsRefused (seen v first) call why at → IsRefused v call why at
refused_by v call first w why at (is_denied that x h) = is_denied that x (later_by v call first w (started.Denied that) x h)
refused_by v call first w denial.NoHandle at (is_opening slot x h) = is_opening slot x (later_by v call first w (started.Opening slot) x h)

module _ (v : View) (call : Call) (pin : Pinned) (first : Account) (w : Waited (pinned_for v pin call) first) where
  -- the seat after so many looks
  abbrev late : View
  late = unpinned (seen (pinned_for v pin call) first)

  called_by : (result : Result Way Denial) (after : View) → HasCalled late call result after → HasCalled v call result after
  called_by (Ok way) after (other, found, begun, on) =
      (other, found, later_by (pinned_for v other call) call first (with_pin v pin other call first w) (started.Runs found) after begun, on)
  called_by (Err why) after (other, at, refused, is) = (other, at, refused_by (pinned_for v other call) call first (with_pin v pin other call first w) why at refused, is)

pub calls_more : (words : ℕ) (call : Call) (before v after : View) → Calls words call before v → IsSound words after → CalledOrNot v call (Ok None) after → Calls words call before after
calls_more words call before v after h sound (pin, at, s, is) =
    let late : View = unpinned (seen (pinned_for v pin call) s.account) in
    let late_is : after ≡ late = subst (λ x. after ≡ unpinned x) s.after_is is in
    let caller : IsCaller late call = record {
      idle = idle_stays v.sizes v.actor v.account s.account s.waited.waited s.waited.sound.bounds h.caller.idle;
      free = refl;
      number = h.caller.number;
      stays = h.caller.stays;
    } in
    let more : Calls words call before late = record {
      sound = subst (λ x. IsSound words x) late_is sound;
      caller = caller;
      actor = h.actor;
      sizes = h.sizes;
      epoch = h.epoch;
      then = λ result last k. h.then result last (called_by v call pin s.account s.waited result last k);
    } in
    subst (λ x. Calls words call before x) (sym late_is) more
