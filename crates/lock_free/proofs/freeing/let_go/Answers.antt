use Rattle.lock_free.proofs.FreesOn.{freed_none}
use Rattle.lock_free.proofs.freeing.let_go.Goals as goal

pub returns-then-not-is_due-clause-freed : goal.returns-then-not-is_due-clause-freed
returns-then-not-is_due-clause-freed c = freed_none c.args.actor.now.me.0
