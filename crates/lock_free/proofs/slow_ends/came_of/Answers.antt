use Rattle.std.proofs.Common.{subst}
use Rattle.lock_free.specs.Attempts.{IsAttempted}
use Rattle.lock_free.proofs.RunningOn.{runs_on_self}
use Rattle.lock_free.proofs.slow_ends.came_of.Goals as goal

pub run_key-requires-clause-at : goal.run_key-requires-clause-at
run_key-requires-clause-at c = subst (IsAttempted c.args.actor.now.me.0) c.in-Again.is c.requires.at

pub returns-in-Comes-clause-run : goal.returns-in-Comes-clause-run
returns-in-Comes-clause-run c = (runs_on_self c.args.actor.now.me.0, subst (IsAttempted c.args.actor.now.me.0) c.in-Comes.is c.requires.at)
