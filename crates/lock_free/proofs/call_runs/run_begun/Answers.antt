use Rattle.std.proofs.Common.{◌∙◌}
use Rattle.lock_free.proofs.CallBegins.{opens_run}
use Rattle.lock_free.proofs.call_runs.run_begun.Goals as goal

pub come_out-requires-clause-unopened : goal.come_out-requires-clause-unopened
come_out-requires-clause-unopened c plain = opens_run c.args.actor.now.me.0 c.run_tried-came.new.actor.me.0 c.run_tried-came.ensures.run.0 ∙ c.requires.unopened plain

pub returns-clause-run : goal.returns-clause-run
returns-clause-run c = (c.run_tried-came.new.actor.me.0, c.run_tried-came.ensures.run.0, c.come_out.ensures.out)
