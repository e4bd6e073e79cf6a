use Rattle.std.proofs.Common.{None, Ok, Err, ap, ◌∙◌}
use Rattle.std.proofs.lemmas.Result.{err_from_is_err_and}
use Rattle.lock_free.proofs.CallBegins.{opens_begun, same_begun}
use Rattle.lock_free.proofs.CallsUnderWay.{begun_under_way, left_again, left_both}
use Rattle.lock_free.proofs.TriesTold.{denied_plain}
use Rattle.lock_free.proofs.WholeCalls.{begun_called, begun_try, keyed_plain, keyed_tried, tried_ready}
use Rattle.lock_free.proofs.key_runs.call_late.Goals as goal

pub begin_call-requires-clause-ready : goal.begin_call-requires-clause-ready
begin_call-requires-clause-ready g c =
    tried_ready c.args.actor.now.me.0 None c.requires.ready c.args.call (keyed_tried c.args.call c.requires.keyed) (keyed_plain c.args.call c.requires.keyed).0

pub call_on-requires-clause-calling : goal.call_on-requires-clause-calling
call_on-requires-clause-calling g c =
    let v = c.args.actor.now.me.0 in
    let x = c.begin_call.new.actor.me.0 in
    let begun = (c.in_ok-way.ensures {u = tt}).begun in
    let at = begun_try v None c.requires.ready c.args.call c.in_ok-way.way x begun (keyed_tried c.args.call c.requires.keyed) in
    record {
      running = (at.0, at.1);
      called = begun_called v None c.requires.ready c.args.call c.in_ok-way.way x begun;
      tried = keyed_tried c.args.call c.requires.keyed;
      keyed = (keyed_plain c.args.call c.requires.keyed).1;
      none = opens_begun v None c.requires.ready c.args.call c.in_ok-way.way x begun;
    }

pub call_on-requires-clause-at : goal.call_on-requires-clause-at
call_on-requires-clause-at g c =
    begun_try c.args.actor.now.me.0 None c.requires.ready c.args.call c.in_ok-way.way c.begin_call.new.actor.me.0 (c.in_ok-way.ensures {u = tt}).begun (keyed_tried c.args.call c.requires.keyed)

pub returns-clause-left : goal.returns-clause-left
returns-clause-left g c =
    let v = c.args.actor.now.me.0 in
    left_both v c.begin_call.new.actor.me.0 c.call_on.new.actor.me.0
    (same_begun v None c.requires.ready c.args.call c.in_ok-way.way c.begin_call.new.actor.me.0 (c.in_ok-way.ensures {u = tt}).begun) c.call_on.ensures.out.1

pub returns-clause-told : goal.returns-clause-told
returns-clause-told g c before still =
    let x = c.begin_call.new.actor.me.0 in
    c.call_on.ensures.out.0 before
    (begun_under_way c.args.words.now.table_id.words before still.sound None still.rests c.args.call c.in_ok-way.way x c.begin_call.ensures.sound
    (still.then (Ok c.in_ok-way.way) x (c.in_ok-way.ensures {u = tt}).begun))

pub returns-in_err-way-clause-left : goal.returns-in_err-way-clause-left
returns-in_err-way-clause-left g c = left_again c.args.actor.now.me.0 c.begin_call.new.actor.me.0 c.requires.ready c.in_err-way.ensures.rests

pub returns-in_err-way-clause-told : goal.returns-in_err-way-clause-told
returns-in_err-way-clause-told g c before still =
    let p = err_from_is_err_and c.from_residual.result c.from_residual.ensures.1 in
    let x = c.begin_call.new.actor.me.0 in
    let denied = c.in_err-way.ensures.begun in
    denied_plain before c.args.call (keyed_plain c.args.call c.requires.keyed).0 still.rests c.in_err-way.field-0.0 x (denied.0, denied.1, still.then (Err denied.0) x denied.2)
    c.from_residual.result (p.1 ∙ ap (λ e. Err e) p.2)
