use Rattle.std.proofs.Common.{ℕ, Option, None, Ok, Err, refl, sym, ap, subst, ◌∙◌}
use Rattle.history.specs.declared.calls.Call.TheVariants.{Get}
use Rattle.history.specs.declared.replies.Reply.TheVariants as reply
use Rattle.lock_free.specs.Calling.{CalledOrNot}
use Rattle.lock_free.specs.SeatCalls.{error_of}
use Rattle.lock_free.specs.Stocks.{IsStock}
use Rattle.lock_free.proofs.CallBegins.{opens_begun, same_begun}
use Rattle.lock_free.proofs.CallsBegun.{begun_keeps, still_then, denied_again, denied_keeps, denied_so, late_again, late_keeps, late_still, ready_caller}
use Rattle.lock_free.proofs.CallsUnderWay.{begun_under_way, few_then, left_again, left_both}
use Rattle.lock_free.proofs.LimboStays.{pinned_late}
use Rattle.lock_free.proofs.Unbegun.{denied_told, denied_why}
use Rattle.lock_free.proofs.WholeCalls.{begun_called, begun_try, tried_ready}
use Rattle.lock_free.proofs.get_runs.get_pinned.Goals as goal

pub start_within-requires-clause-late : goal.start_within-requires-clause-late
start_within-requires-clause-late g c = pinned_late c.args.stock.now c.begin.new.self c.args.actor.now.me.0 c.requires.stock c.begin.ensures c.epoch.result c.epoch.ensures.seen

pub start_within-requires-clause-caller : goal.start_within-requires-clause-caller
start_within-requires-clause-caller g c = ready_caller c.args.actor.now.me.0 (Get c.args.handle c.args.key)
    (tried_ready c.args.actor.now.me.0 None c.requires.ready (Get c.args.handle c.args.key) tt refl)

pub get_late-requires-clause-stock : goal.get_late-requires-clause-stock
get_late-requires-clause-stock g c =
    let v = c.args.actor.now.me.0 in
    let x = c.start_within.new.actor.me.0 in
    late_keeps v (Get c.args.handle c.args.key) (tried_ready c.args.actor.now.me.0 None c.requires.ready (Get c.args.handle c.args.key) tt refl) x
    (subst (λ r. CalledOrNot v (Get c.args.handle c.args.key) (Ok r) x) c.in-Ok-None.field-0-is (c.in-Ok-None.ensures {u = tt}).called) c.begin.new.self
    (subst (λ s. IsStock s v) (sym c.begin.ensures) c.requires.stock)

pub get_late-requires-clause-its : goal.get_late-requires-clause-its
get_late-requires-clause-its g c =
    let v = c.args.actor.now.me.0 in
    let x = c.start_within.new.actor.me.0 in
    (late_again v (Get c.args.handle c.args.key) (tried_ready c.args.actor.now.me.0 None c.requires.ready (Get c.args.handle c.args.key) tt refl) x
    (subst (λ r. CalledOrNot v (Get c.args.handle c.args.key) (Ok r) x) c.in-Ok-None.field-0-is (c.in-Ok-None.ensures {u = tt}).called) None c.requires.ready).0.actor ∙ c.requires.its

pub get_late-requires-clause-few : goal.get_late-requires-clause-few
get_late-requires-clause-few g c =
    let v = c.args.actor.now.me.0 in
    let x = c.start_within.new.actor.me.0 in
    few_then v x (late_again v (Get c.args.handle c.args.key) (tried_ready c.args.actor.now.me.0 None c.requires.ready (Get c.args.handle c.args.key) tt refl) x
    (subst (λ r. CalledOrNot v (Get c.args.handle c.args.key) (Ok r) x) c.in-Ok-None.field-0-is (c.in-Ok-None.ensures {u = tt}).called) None c.requires.ready).0 c.requires.few

pub get_late-requires-clause-ready : goal.get_late-requires-clause-ready
get_late-requires-clause-ready g c =
    let v = c.args.actor.now.me.0 in
    let x = c.start_within.new.actor.me.0 in
    (late_again v (Get c.args.handle c.args.key) (tried_ready c.args.actor.now.me.0 None c.requires.ready (Get c.args.handle c.args.key) tt refl) x
    (subst (λ r. CalledOrNot v (Get c.args.handle c.args.key) (Ok r) x) c.in-Ok-None.field-0-is (c.in-Ok-None.ensures {u = tt}).called) None c.requires.ready).1

pub returns-in-Ok-None-clause-left : goal.returns-in-Ok-None-clause-left
returns-in-Ok-None-clause-left g c =
    let v = c.args.actor.now.me.0 in
    let x = c.start_within.new.actor.me.0 in
    left_both v x c.get_late.new.actor.me.0 (late_again v (Get c.args.handle c.args.key) (tried_ready c.args.actor.now.me.0 None c.requires.ready (Get c.args.handle c.args.key) tt refl) x
    (subst (λ r. CalledOrNot v (Get c.args.handle c.args.key) (Ok r) x) c.in-Ok-None.field-0-is (c.in-Ok-None.ensures {u = tt}).called) None c.requires.ready).0 c.get_late.ensures.left

pub returns-in-Ok-None-clause-told : goal.returns-in-Ok-None-clause-told
returns-in-Ok-None-clause-told g c before still =
    let v = c.args.actor.now.me.0 in
    let x = c.start_within.new.actor.me.0 in
    c.get_late.ensures.told before (still_then c.args.words.now.table_id.words before (Get c.args.handle c.args.key) v still x (late_still v (Get c.args.handle c.args.key)
    (tried_ready c.args.actor.now.me.0 None c.requires.ready (Get c.args.handle c.args.key) tt refl) x
    (subst (λ r. CalledOrNot v (Get c.args.handle c.args.key) (Ok r) x) c.in-Ok-None.field-0-is (c.in-Ok-None.ensures {u = tt}).called) c.args.words.now.table_id.words c.requires.sound
    c.requires.ready
    c.start_within.ensures.sound))

pub returns-in-Err-clause-stock : goal.returns-in-Err-clause-stock
returns-in-Err-clause-stock g c =
    let v = c.args.actor.now.me.0 in
    denied_keeps v (Get c.args.handle c.args.key) (tried_ready c.args.actor.now.me.0 None c.requires.ready (Get c.args.handle c.args.key) tt refl) c.in-Err.denial c.start_within.new.actor.me.0
    (c.in-Err.ensures {u = tt}).called c.begin.new.self
    (subst (λ s. IsStock s v) (sym c.begin.ensures) c.requires.stock)

pub returns-in-Err-clause-left : goal.returns-in-Err-clause-left
returns-in-Err-clause-left g c =
    let v = c.args.actor.now.me.0 in
    let x = c.start_within.new.actor.me.0 in
    left_again v x c.requires.ready (denied_again v (Get c.args.handle c.args.key) (tried_ready c.args.actor.now.me.0 None c.requires.ready (Get c.args.handle c.args.key) tt refl) c.in-Err.denial x
    (c.in-Err.ensures {u = tt}).called)

pub get_begun-requires-clause-stock : goal.get_begun-requires-clause-stock
get_begun-requires-clause-stock g c =
    let v = c.args.actor.now.me.0 in
    let x = c.start_within.new.actor.me.0 in
    begun_keeps v (Get c.args.handle c.args.key) (tried_ready c.args.actor.now.me.0 None c.requires.ready (Get c.args.handle c.args.key) tt refl) c.in-Ok-Some.way x
    (subst (λ r. CalledOrNot v (Get c.args.handle c.args.key) (Ok r) x) c.in-Ok-Some.field-0-is (c.in-Ok-Some.ensures {u = tt}).called) c.begin.new.self
    (subst (λ s. IsStock s v) (sym c.begin.ensures) c.requires.stock)

pub get_begun-requires-clause-calling : goal.get_begun-requires-clause-calling
get_begun-requires-clause-calling g c =
    let v = c.args.actor.now.me.0 in
    let x = c.start_within.new.actor.me.0 in
    let begun = subst (λ r. CalledOrNot v (Get c.args.handle c.args.key) (Ok r) x) c.in-Ok-Some.field-0-is (c.in-Ok-Some.ensures {u = tt}).called in
    let at = begun_try v None c.requires.ready (Get c.args.handle c.args.key) c.in-Ok-Some.way x begun tt in
    record {
      running = (at.0, at.1);
      called = begun_called v None c.requires.ready (Get c.args.handle c.args.key) c.in-Ok-Some.way x begun;
      tried = tt;
      keyed = refl;
      none = opens_begun v None c.requires.ready (Get c.args.handle c.args.key) c.in-Ok-Some.way x begun;
    }

pub get_begun-requires-clause-at : goal.get_begun-requires-clause-at
get_begun-requires-clause-at g c =
    let v = c.args.actor.now.me.0 in
    let x = c.start_within.new.actor.me.0 in
    begun_try v None c.requires.ready (Get c.args.handle c.args.key) c.in-Ok-Some.way x
    (subst (λ r. CalledOrNot v (Get c.args.handle c.args.key) (Ok r) x) c.in-Ok-Some.field-0-is (c.in-Ok-Some.ensures {u = tt}).called) tt

pub returns-clause-left : goal.returns-clause-left
returns-clause-left g c =
    let v = c.args.actor.now.me.0 in
    let x = c.start_within.new.actor.me.0 in
    left_both v x c.get_begun.new.actor.me.0
    (same_begun v None c.requires.ready (Get c.args.handle c.args.key) c.in-Ok-Some.way x
    (subst (λ r. CalledOrNot v (Get c.args.handle c.args.key) (Ok r) x) c.in-Ok-Some.field-0-is (c.in-Ok-Some.ensures {u = tt}).called)) c.get_begun.ensures.left

pub returns-in-Err-clause-told : goal.returns-in-Err-clause-told
returns-in-Err-clause-told g c before still =
    let call = Get c.args.handle c.args.key in
    let x = c.start_within.new.actor.me.0 in
    let so = denied_so before call (tried_ready before None still.rests call tt refl) c.in-Err.denial x (still.then (Err c.in-Err.denial) x (c.in-Err.ensures {u = tt}).called) in (
      denied_told reply.Found before still.rests call (error_of c.in-Err.denial) x (Err c.from.result) (ap (λ e. Err e) c.from.ensures) so,
      denied_why {A = Option ℕ} before call (error_of c.in-Err.denial) x (Err c.from.result) (ap (λ e. Err e) c.from.ensures) so,
    )

pub get_begun-requires-clause-under : goal.get_begun-requires-clause-under
get_begun-requires-clause-under g c =
    let v = c.args.actor.now.me.0 in
    let x = c.start_within.new.actor.me.0 in (
      v,
      (begun_under_way c.args.words.now.table_id.words v c.requires.sound None c.requires.ready (Get c.args.handle c.args.key) c.in-Ok-Some.way x c.start_within.ensures.sound
          (subst (λ r. CalledOrNot v (Get c.args.handle c.args.key) (Ok r) x) c.in-Ok-Some.field-0-is (c.in-Ok-Some.ensures {u = tt}).called)),
    )

pub returns-clause-told : goal.returns-clause-told
returns-clause-told g c before still =
    let v = c.args.actor.now.me.0 in
    let x = c.start_within.new.actor.me.0 in
    c.get_begun.ensures.told before
    (begun_under_way c.args.words.now.table_id.words before still.sound None still.rests (Get c.args.handle c.args.key) c.in-Ok-Some.way x c.start_within.ensures.sound
    (still.then (Ok c.in-Ok-Some.way) x (subst (λ r. CalledOrNot v (Get c.args.handle c.args.key) (Ok r) x) c.in-Ok-Some.field-0-is (c.in-Ok-Some.ensures {u = tt}).called)))
