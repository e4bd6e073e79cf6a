use Rattle.lock_free.proofs.FreesOn.{freed_none}
use Rattle.lock_free.proofs.ripe_nodes.free_some.Goals as goal

pub returns-else-has_retired-clause-freed : goal.returns-else-has_retired-clause-freed
returns-else-has_retired-clause-freed c = freed_none c.args.actor.now.me.0
