use Rattle.std.proofs.Common.{None}
use Rattle.lock_free.specs.declared.call_runs.Ran.TheVariants as ran
use Rattle.lock_free.proofs.CallNumbers.{keyed_number, opens_none}
use Rattle.lock_free.proofs.CallsUnderWay.{left_both, left_out, plain_left, run_out}
use Rattle.lock_free.proofs.RunningOn.{runs_on_self}
use Rattle.lock_free.proofs.TriesTold.{replied_by}
use Rattle.lock_free.proofs.try_runs.end_call.Goals as goal

pub until_over-requires-clause-going : goal.until_over-requires-clause-going
until_over-requires-clause-going g c =
    let v = c.args.actor.now.me.0 in
    let running = c.requires.running in
    let at = c.in-UnderWay in
    (left_out c.args.call c.args.access v running.0 running.1 c.requires.called None c.requires.none v (runs_on_self v) (keyed_number c.args.call running.0 c.requires.keyed)
    (ran.UnderWay at.allowed at.parked) c.come_out.new.actor.me.0 (at.ensures {u = tt}).out).1

pub returns-in-Told-clause-told : goal.returns-in-Told-clause-told
returns-in-Told-clause-told g c before under =
    let v = c.args.actor.now.me.0 in
    let x = c.come_out.new.actor.me.0 in
    replied_by c.args.words.now.table_id.words before x c.come_out.ensures.sound c.seats_are_explained.ensures c.args.call c.requires.tried None
    (opens_none c.args.call c.requires.keyed) c.in-Told.told
    (run_out before c.args.call None v v under (runs_on_self v) c.args.access (ran.Told c.in-Told.told) x (c.in-Told.ensures {u = tt}).out)

pub returns-in-Told-clause-left : goal.returns-in-Told-clause-left
returns-in-Told-clause-left g c =
    let v = c.args.actor.now.me.0 in
    let running = c.requires.running in
    plain_left v c.args.call (ran.Told c.in-Told.told) c.come_out.new.actor.me.0
    (left_out c.args.call c.args.access v running.0 running.1 c.requires.called None c.requires.none v (runs_on_self v) (keyed_number c.args.call running.0 c.requires.keyed)
    (ran.Told c.in-Told.told)
    c.come_out.new.actor.me.0 (c.in-Told.ensures {u = tt}).out)

pub returns-in-UnderWay-clause-told : goal.returns-in-UnderWay-clause-told
returns-in-UnderWay-clause-told g c before under =
    let v = c.args.actor.now.me.0 in
    let u = c.come_out.new.actor.me.0 in
    let at = c.in-UnderWay in
    let running = c.requires.running in
    let parked = ran.UnderWay at.allowed at.parked in
    let out = (at.ensures {u = tt}).out in
    let left = left_out c.args.call c.args.access v running.0 running.1 c.requires.called None c.requires.none v (runs_on_self v) (keyed_number c.args.call running.0 c.requires.keyed)
    parked u out in
    c.until_over.ensures.told before c.args.call c.requires.tried (record {
      opens = None;
      number = opens_none c.args.call c.requires.keyed;
      is = run_out before c.args.call None v v under (runs_on_self v) c.args.access parked u out;
      its = λ o runs. (left.1.called o runs).0;
    })

pub returns-in-UnderWay-clause-left : goal.returns-in-UnderWay-clause-left
returns-in-UnderWay-clause-left g c =
    let v = c.args.actor.now.me.0 in
    let u = c.come_out.new.actor.me.0 in
    let at = c.in-UnderWay in
    let running = c.requires.running in
    let left = left_out c.args.call c.args.access v running.0 running.1 c.requires.called None c.requires.none v (runs_on_self v) (keyed_number c.args.call running.0 c.requires.keyed)
    (ran.UnderWay at.allowed at.parked) u (at.ensures {u = tt}).out in
    left_both v u c.until_over.new.actor.me.0 left.0 c.until_over.ensures.left
