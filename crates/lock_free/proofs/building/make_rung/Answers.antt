use Rattle.lock_free.proofs.Pairs.{rung_at}
use Rattle.lock_free.proofs.building.make_rung.Goals as goal

pub make_branch-requires-clause-making : goal.make_branch-requires-clause-making
make_branch-requires-clause-making c = rung_at c.args.actor.now.me.0 c.args.flag c.args.link c.requires.making
