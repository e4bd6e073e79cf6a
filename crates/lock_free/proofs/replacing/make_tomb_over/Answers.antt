use Rattle.lock_free.proofs.Resting.{built_at_once}
use Rattle.lock_free.proofs.replacing.make_tomb_over.Goals as goal

pub returns-then-main-clause-built : goal.returns-then-main-clause-built
returns-then-main-clause-built c = built_at_once c.args.actor.now.me.0 c.make_tomb.result c.make_tomb.new.actor.me.0 c.make_tomb.ensures.made
