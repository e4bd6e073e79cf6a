use Rattle.std.proofs.Common.{◌≤◌, None, Ok, Err, sym, ap, subst, ◌∙◌}
use Rattle.lock_free.specs.Calling.{CalledOrNot}
use Rattle.lock_free.specs.SeatCalls.{error_of}
use Rattle.lock_free.specs.Stocks.{IsStock}
use Rattle.lock_free.proofs.CallBegins.{opens_begun, same_begun}
use Rattle.lock_free.proofs.CallsBegun.{begun_keeps, denied_again, denied_keeps, denied_so, late_again, late_keeps, late_still, ready_caller}
use Rattle.lock_free.proofs.CallsUnderWay.{begun_under_way, few_then, left_again, left_both}
use Rattle.lock_free.proofs.LimboStays.{pinned_late}
use Rattle.lock_free.proofs.TriesTold.{denied_plain, no_handle_plain}
use Rattle.lock_free.proofs.WholeCalls.{begun_called, begun_try, keyed_plain, keyed_tried, tried_ready}
use Rattle.lock_free.proofs.key_runs.run_call.Goals as goal

pub returns-then-handle-ge-HANDLES-clause-told : goal.returns-then-handle-ge-HANDLES-clause-told
returns-then-handle-ge-HANDLES-clause-told g c =
    no_handle_plain c.args.actor.now.me.0 c.args.call (keyed_plain c.args.call c.requires.keyed).0 (subst (λ h. 256 ≤ h) c.handle.ensures c.if-handle-ge-HANDLES.true)

pub start_within-requires-clause-late : goal.start_within-requires-clause-late
start_within-requires-clause-late g c = pinned_late c.args.stock.now c.begin.new.self c.args.actor.now.me.0 c.requires.stock c.begin.ensures c.epoch.result c.epoch.ensures.seen

pub start_within-requires-clause-caller : goal.start_within-requires-clause-caller
start_within-requires-clause-caller g c = ready_caller c.args.actor.now.me.0 c.args.call (tried_ready c.args.actor.now.me.0 None c.requires.ready c.args.call
    (keyed_tried c.args.call c.requires.keyed) (keyed_plain c.args.call c.requires.keyed).0)

pub call_late-requires-clause-stock : goal.call_late-requires-clause-stock
call_late-requires-clause-stock g c =
    let v = c.args.actor.now.me.0 in
    let x = c.start_within.new.actor.me.0 in
    late_keeps v c.args.call (tried_ready c.args.actor.now.me.0 None c.requires.ready c.args.call (keyed_tried c.args.call c.requires.keyed) (keyed_plain c.args.call c.requires.keyed).0) x
    (subst (λ r. CalledOrNot v c.args.call (Ok r) x) c.in-Ok-None.field-0-is (c.in-Ok-None.ensures {u = tt}).called) c.begin.new.self
    (subst (λ s. IsStock s v) (sym c.begin.ensures) c.requires.stock)

pub call_late-requires-clause-its : goal.call_late-requires-clause-its
call_late-requires-clause-its g c =
    let v = c.args.actor.now.me.0 in
    let x = c.start_within.new.actor.me.0 in
    (late_again v c.args.call (tried_ready c.args.actor.now.me.0 None c.requires.ready c.args.call (keyed_tried c.args.call c.requires.keyed) (keyed_plain c.args.call c.requires.keyed).0) x
    (subst (λ r. CalledOrNot v c.args.call (Ok r) x) c.in-Ok-None.field-0-is (c.in-Ok-None.ensures {u = tt}).called) None c.requires.ready).0.actor ∙ c.requires.its

pub call_late-requires-clause-few : goal.call_late-requires-clause-few
call_late-requires-clause-few g c =
    let v = c.args.actor.now.me.0 in
    let x = c.start_within.new.actor.me.0 in
    few_then v x (late_again v c.args.call (tried_ready c.args.actor.now.me.0 None c.requires.ready c.args.call (keyed_tried c.args.call c.requires.keyed)
    (keyed_plain c.args.call c.requires.keyed).0) x
    (subst (λ r. CalledOrNot v c.args.call (Ok r) x) c.in-Ok-None.field-0-is (c.in-Ok-None.ensures {u = tt}).called) None c.requires.ready).0 c.requires.few

pub call_late-requires-clause-ready : goal.call_late-requires-clause-ready
call_late-requires-clause-ready g c =
    let v = c.args.actor.now.me.0 in
    let x = c.start_within.new.actor.me.0 in
    (late_again v c.args.call (tried_ready c.args.actor.now.me.0 None c.requires.ready c.args.call (keyed_tried c.args.call c.requires.keyed) (keyed_plain c.args.call c.requires.keyed).0) x
    (subst (λ r. CalledOrNot v c.args.call (Ok r) x) c.in-Ok-None.field-0-is (c.in-Ok-None.ensures {u = tt}).called) None c.requires.ready).1

pub returns-in-Ok-None-clause-left : goal.returns-in-Ok-None-clause-left
returns-in-Ok-None-clause-left g c =
    let v = c.args.actor.now.me.0 in
    let x = c.start_within.new.actor.me.0 in
    left_both v x c.call_late.new.actor.me.0 (late_again v c.args.call (tried_ready c.args.actor.now.me.0 None c.requires.ready c.args.call (keyed_tried c.args.call c.requires.keyed)
    (keyed_plain c.args.call c.requires.keyed).0) x
    (subst (λ r. CalledOrNot v c.args.call (Ok r) x) c.in-Ok-None.field-0-is (c.in-Ok-None.ensures {u = tt}).called) None c.requires.ready).0 c.call_late.ensures.left

pub returns-in-Ok-None-clause-told : goal.returns-in-Ok-None-clause-told
returns-in-Ok-None-clause-told g c =
    let v = c.args.actor.now.me.0 in
    let x = c.start_within.new.actor.me.0 in
    c.call_late.ensures.told v (late_still v c.args.call (tried_ready c.args.actor.now.me.0 None c.requires.ready c.args.call (keyed_tried c.args.call c.requires.keyed)
    (keyed_plain c.args.call c.requires.keyed).0) x
    (subst (λ r. CalledOrNot v c.args.call (Ok r) x) c.in-Ok-None.field-0-is (c.in-Ok-None.ensures {u = tt}).called) c.args.words.now.table_id.words c.requires.sound c.requires.ready
    c.start_within.ensures.sound)

pub returns-in-Err-clause-stock : goal.returns-in-Err-clause-stock
returns-in-Err-clause-stock g c =
    let v = c.args.actor.now.me.0 in
    denied_keeps v c.args.call (tried_ready c.args.actor.now.me.0 None c.requires.ready c.args.call (keyed_tried c.args.call c.requires.keyed) (keyed_plain c.args.call c.requires.keyed).0)
    c.in-Err.denial c.start_within.new.actor.me.0 (c.in-Err.ensures {u = tt}).called c.begin.new.self
    (subst (λ s. IsStock s v) (sym c.begin.ensures) c.requires.stock)

pub returns-in-Err-clause-left : goal.returns-in-Err-clause-left
returns-in-Err-clause-left g c =
    let v = c.args.actor.now.me.0 in
    let x = c.start_within.new.actor.me.0 in
    left_again v x c.requires.ready (denied_again v c.args.call (tried_ready c.args.actor.now.me.0 None c.requires.ready c.args.call (keyed_tried c.args.call c.requires.keyed)
    (keyed_plain c.args.call c.requires.keyed).0) c.in-Err.denial x (c.in-Err.ensures {u = tt}).called)

pub call_begun-requires-clause-stock : goal.call_begun-requires-clause-stock
call_begun-requires-clause-stock g c =
    let v = c.args.actor.now.me.0 in
    let x = c.start_within.new.actor.me.0 in
    begun_keeps v c.args.call (tried_ready c.args.actor.now.me.0 None c.requires.ready c.args.call (keyed_tried c.args.call c.requires.keyed) (keyed_plain c.args.call c.requires.keyed).0)
    c.in-Ok-Some.way x
    (subst (λ r. CalledOrNot v c.args.call (Ok r) x) c.in-Ok-Some.field-0-is (c.in-Ok-Some.ensures {u = tt}).called) c.begin.new.self
    (subst (λ s. IsStock s v) (sym c.begin.ensures) c.requires.stock)

pub call_begun-requires-clause-calling : goal.call_begun-requires-clause-calling
call_begun-requires-clause-calling g c =
    let v = c.args.actor.now.me.0 in
    let x = c.start_within.new.actor.me.0 in
    let begun = subst (λ r. CalledOrNot v c.args.call (Ok r) x) c.in-Ok-Some.field-0-is (c.in-Ok-Some.ensures {u = tt}).called in
    let at = begun_try v None c.requires.ready c.args.call c.in-Ok-Some.way x begun (keyed_tried c.args.call c.requires.keyed) in
    record {
      running = (at.0, at.1);
      called = begun_called v None c.requires.ready c.args.call c.in-Ok-Some.way x begun;
      tried = keyed_tried c.args.call c.requires.keyed;
      keyed = (keyed_plain c.args.call c.requires.keyed).1;
      none = opens_begun v None c.requires.ready c.args.call c.in-Ok-Some.way x begun;
    }

pub call_begun-requires-clause-at : goal.call_begun-requires-clause-at
call_begun-requires-clause-at g c =
    let v = c.args.actor.now.me.0 in
    let x = c.start_within.new.actor.me.0 in
    begun_try v None c.requires.ready c.args.call c.in-Ok-Some.way x
    (subst (λ r. CalledOrNot v c.args.call (Ok r) x) c.in-Ok-Some.field-0-is (c.in-Ok-Some.ensures {u = tt}).called) (keyed_tried c.args.call c.requires.keyed)

pub returns-clause-left : goal.returns-clause-left
returns-clause-left g c =
    let v = c.args.actor.now.me.0 in
    let x = c.start_within.new.actor.me.0 in
    left_both v x c.call_begun.new.actor.me.0
    (same_begun v None c.requires.ready c.args.call c.in-Ok-Some.way x
    (subst (λ r. CalledOrNot v c.args.call (Ok r) x) c.in-Ok-Some.field-0-is (c.in-Ok-Some.ensures {u = tt}).called)) c.call_begun.ensures.out.1

pub returns-in-Err-clause-told : goal.returns-in-Err-clause-told
returns-in-Err-clause-told g c =
    let v = c.args.actor.now.me.0 in
    let x = c.start_within.new.actor.me.0 in
    denied_plain v c.args.call (keyed_plain c.args.call c.requires.keyed).0 c.requires.ready (error_of c.in-Err.denial) x
    (denied_so v c.args.call (tried_ready c.args.actor.now.me.0 None c.requires.ready c.args.call (keyed_tried c.args.call c.requires.keyed) (keyed_plain c.args.call c.requires.keyed).0)
    c.in-Err.denial x (c.in-Err.ensures {u = tt}).called) (Err c.from.result) (ap (λ e. Err e) c.from.ensures)

pub returns-clause-told : goal.returns-clause-told
returns-clause-told g c =
    let v = c.args.actor.now.me.0 in
    let x = c.start_within.new.actor.me.0 in
    c.call_begun.ensures.out.0 v
    (begun_under_way c.args.words.now.table_id.words v c.requires.sound None c.requires.ready c.args.call c.in-Ok-Some.way x c.start_within.ensures.sound
    (subst (λ r. CalledOrNot v c.args.call (Ok r) x) c.in-Ok-Some.field-0-is (c.in-Ok-Some.ensures {u = tt}).called))
