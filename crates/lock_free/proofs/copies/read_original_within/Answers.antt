use Rattle.lock_free.proofs.CopyReads.{original_spent, passing, original_read}
use Rattle.lock_free.proofs.copies.read_original_within.Goals as goal

pub read_on-requires-clause-passing : goal.read_on-requires-clause-passing
read_on-requires-clause-passing c = passing c.args.actor.now.me.0 c.args.root c.requires.at

pub returns-in-Gives-clause-original : goal.returns-in-Gives-clause-original
returns-in-Gives-clause-original c = original_read c.args.actor.now.me.0 c.args.root c.requires.at c.in-Gives.given c.read_on.new.actor.me.0 (c.in-Gives.ensures {u = tt}).passed

pub returns-in-Again-clause-original : goal.returns-in-Again-clause-original
returns-in-Again-clause-original c = original_spent c.args.actor.now.me.0 c.args.root c.requires.at c.in-Again.field-0 c.read_on.new.actor.me.0 (c.in-Again.ensures {u = tt}).passed
