use Rattle.std.proofs.Common.{◌∙◌, ap, sym, subst}
use Rattle.lock_free.specs.Calling.{HasStarted, StartedOrNot, is_denied, is_opening, IsBeginner, IsRefused}
use Rattle.lock_free.specs.Loading.{Saw}
use Rattle.lock_free.specs.SeatWords.{pinned_for, IsIdle}
use Rattle.lock_free.proofs.Beginners.{beginner_of}
use Rattle.lock_free.proofs.Shutting.{idle_seen}
use Rattle.lock_free.proofs.calling.start_within.Goals as goal
use Rattle.lock_free.proofs.calling.start_within.Goals.{in-Denied, in-Opening}

pub begin_within-requires-clause-beginner : goal.begin_within-requires-clause-beginner
begin_within-requires-clause-beginner c =
    let x = c.pin.ensures.pinned in
    subst (λ v. IsBeginner v c.args.call.now) (sym (ap (λ me. me.0) x.2))
    (beginner_of c.args.actor.now.me.0 x.0 c.args.call.now c.requires.caller (ap (λ p. p.handle) x.1 ∙ c.handle-handle.ensures))

pub unpin-requires-clause-idle : goal.unpin-requires-clause-idle
unpin-requires-clause-idle c =
    let saw = subst (λ r. StartedOrNot c.pin.new.actor.me.0 c.args.call.now r c.begin_within.new.actor.me.0) c.in_default.is c.begin_within.ensures.started in
    idle_seen c.pin.new.actor.me.0 c.begin_within.new.actor.me.0 saw (subst IsIdle (sym (ap (λ me. me.0) c.pin.ensures.pinned.2)) c.requires.caller.idle)

pub unpin-requires-2-clause-idle : goal.unpin-requires-2-clause-idle
unpin-requires-2-clause-idle c =
    let before = c.pin.new.actor.me.0 in
    let idle = subst IsIdle (sym (ap (λ me. me.0) c.pin.ensures.pinned.2)) c.requires.caller.idle in
    elim c.match-started.branch [
      | in-Denied w ↦ idle_seen before c.begin_within.new.actor.me.0 (subst (λ x. HasStarted c.pin.new.actor.me.0 c.args.call.now x c.begin_within.new.actor.me.0) w.in-Denied.is (c.in-Some.ensures
          {u = tt}).started).0 idle
      | in-Opening w ↦ idle_seen before c.begin_within.new.actor.me.0 (subst (λ x. HasStarted c.pin.new.actor.me.0 c.args.call.now x c.begin_within.new.actor.me.0) w.in-Opening.is
          (c.in-Some.ensures {u = tt}).started).0 idle
    ]

pub returns-clause-called : goal.returns-clause-called
returns-clause-called c =
    let pin = c.pin.ensures.pinned.0 in
    let asked = pinned_for c.args.actor.now.me.0 pin c.args.call.now in
    let before_is = ap (λ me. me.0) c.pin.ensures.pinned.2 in
    let at = c.begin_within.new.actor.me.0 in
    let refused : IsRefused c.pin.new.actor.me.0 c.args.call.now c.match-started.denial at = elim c.match-started.branch [
      | in-Denied w ↦ subst (λ d. IsRefused c.pin.new.actor.me.0 c.args.call.now d at) (sym w.denial-is) (is_denied w.in-Denied.denial at (subst (λ x. HasStarted c.pin.new.actor.me.0
          c.args.call.now x c.begin_within.new.actor.me.0) w.in-Denied.is (c.in-Some.ensures {u = tt}).started))
      | in-Opening w ↦ subst (λ d. IsRefused c.pin.new.actor.me.0 c.args.call.now d at) (sym w.denial-is) (is_opening w.in-Opening.field-0 at (subst (λ x. HasStarted c.pin.new.actor.me.0
          c.args.call.now x c.begin_within.new.actor.me.0) w.in-Opening.is (c.in-Some.ensures {u = tt}).started))
    ] in
    (pin, at, subst (λ v. IsRefused v c.args.call.now c.match-started.denial at) before_is refused, ap (λ me. me.0) c.unpin-2.ensures.unpinned)

pub returns-in_default-clause-called : goal.returns-in_default-clause-called
returns-in_default-clause-called c =
    let pin = c.pin.ensures.pinned.0 in
    let before_is = ap (λ me. me.0) c.pin.ensures.pinned.2 in
    let saw = subst (λ r. StartedOrNot c.pin.new.actor.me.0 c.args.call.now r c.begin_within.new.actor.me.0) c.in_default.is c.begin_within.ensures.started in
    (pin, c.begin_within.new.actor.me.0, subst (λ v. Saw v c.begin_within.new.actor.me.0) before_is saw, ap (λ me. me.0) c.unpin.ensures.unpinned)
