use Rattle.std.proofs.Common.{◌∙◌}
use Rattle.lock_free.specs.Parking.{opens_of}
use Rattle.lock_free.proofs.CallBegins.{opens_run}
use Rattle.lock_free.proofs.CallNumbers.{number_parked}
use Rattle.lock_free.proofs.CallsUnderWay.{left_out, parked_runs, run_out}
use Rattle.lock_free.proofs.call_runs.run_on_within.Goals as goal

pub go_on-came-requires-clause-called : goal.go_on-came-requires-clause-called
go_on-came-requires-clause-called c = c.requires.going.called

pub go_on-came-requires-clause-parked : goal.go_on-came-requires-clause-parked
go_on-came-requires-clause-parked c = c.requires.going.its

pub come_out-requires-clause-come : goal.come_out-requires-clause-come
come_out-requires-clause-come c = c.go_on-came.ensures.run.1

pub come_out-requires-clause-unopened : goal.come_out-requires-clause-unopened
come_out-requires-clause-unopened c plain =
    let v = c.args.actor.now.me.0 in
    let going = c.requires.going in
    let running = parked_runs v c.args.parked going.its in
    opens_run v c.go_on-came.new.actor.me.0 c.go_on-came.ensures.run.0 ∙ going.number
    ∙ (number_parked v c.args.call c.args.access going.called c.args.parked going.its running.0 running.1).plain plain

pub returns-clause-run : goal.returns-clause-run
returns-clause-run c before opens under =
    run_out before c.args.call opens c.args.actor.now.me.0 c.go_on-came.new.actor.me.0 under c.go_on-came.ensures.run.0 c.args.access c.come_out.result c.come_out.new.actor.me.0 c.come_out.ensures.out

pub returns-clause-left : goal.returns-clause-left
returns-clause-left c =
    let v = c.args.actor.now.me.0 in
    let going = c.requires.going in
    let running = parked_runs v c.args.parked going.its in
    left_out c.args.call c.args.access v running.0 running.1 going.called (opens_of c.args.parked) going.number c.go_on-came.new.actor.me.0 c.go_on-came.ensures.run.0
    (number_parked v c.args.call c.args.access going.called c.args.parked going.its running.0 running.1) c.come_out.result c.come_out.new.actor.me.0 c.come_out.ensures.out
