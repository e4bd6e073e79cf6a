use Rattle.std.proofs.Common.{sym}
use Rattle.lock_free.proofs.CopiesParked.{copy_at, copying_so}
use Rattle.lock_free.proofs.copy_runs.run_tried.Goals as goal

pub run_copy-requires-clause-copying : goal.run_copy-requires-clause-copying
run_copy-requires-clause-copying c = copying_so c.args.actor.now.me.0 c.args.call c.args.way c.args.opens c.requires.called c.requires.way c.requires.opens

pub run_copy-requires-clause-at : goal.run_copy-requires-clause-at
run_copy-requires-clause-at c =
    copy_at c.args.actor.now.me.0 c.args.call c.args.way.access c.requires.called (sym c.if-is_copy.ensures) c.requires.at
