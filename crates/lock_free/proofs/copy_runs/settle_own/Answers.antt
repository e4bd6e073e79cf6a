use Rattle.lock_free.proofs.CopiesOn.{left_on, settled_copy, settled_runs}
use Rattle.lock_free.proofs.CopiesParked.{settled_moved}
use Rattle.lock_free.proofs.copy_runs.settle_own.Goals as goal

pub returns-in-Err-clause-on : goal.returns-in-Err-clause-on
returns-in-Err-clause-on c =
    left_on c.args.words.now.table_id.words c.args.actor.now.me.0 c.requires.sound c.args.which c.args.way.handle c.args.opens c.args.completing c.requires.completing c.requires.own
    c.complete_own_on.new.actor.me.0
    c.in-Err.next (c.in-Err.ensures {u = tt}).on

pub part_copy-requires-clause-own : goal.part_copy-requires-clause-own
part_copy-requires-clause-own c =
    settled_copy c.args.words.now.table_id.words c.args.actor.now.me.0 c.requires.sound c.args.which c.args.way.handle c.args.opens c.args.completing c.requires.completing c.requires.own
    c.complete_own_on.new.actor.me.0
    c.in-Ok.carried (c.in-Ok.ensures {u = tt}).copied

pub part_copy-requires-clause-runs : goal.part_copy-requires-clause-runs
part_copy-requires-clause-runs c =
    settled_runs c.args.words.now.table_id.words c.args.actor.now.me.0 c.requires.sound c.args.which c.args.way.handle c.args.opens c.args.completing c.requires.completing c.requires.own
    c.complete_own_on.new.actor.me.0
    c.in-Ok.carried (c.in-Ok.ensures {u = tt}).copied

pub returns-clause-settled : goal.returns-clause-settled
returns-clause-settled c =
    settled_moved c.args.actor.now.me.0 c.complete_own_on.new.actor.me.0 c.in-Ok.carried (c.in-Ok.ensures {u = tt}).copied c.part_copy.new.actor.me.0 c.part_copy.ensures.moved
