use Rattle.lock_free.proofs.ClimbLooks.{asks_spent, at_root, asks_again, asks_ended}
use Rattle.std.proofs.Common.{eq-eqb, ne_eqb}
use Rattle.lock_free.proofs.climbs.ask_again_within.Goals as goal

pub root_within-requires-clause-at : goal.root_within-requires-clause-at
root_within-requires-clause-at c = at_root c.args.actor.now.me.0 c.requires.at

pub returns-then-rooted-start-clause-asked : goal.returns-then-rooted-start-clause-asked
returns-then-rooted-start-clause-asked c =
    asks_again c.args.actor.now.me.0 c.requires.at c.in-Ok.rooted c.root_within.new.actor.me.0 (c.in-Ok.ensures {u = tt}).rooted c.args.start c.requires.start (eq-eqb
    c.in-Ok.rooted.generation c.args.start c.if-rooted-start.true)

pub returns-else-rooted-start-clause-asked : goal.returns-else-rooted-start-clause-asked
returns-else-rooted-start-clause-asked c =
    asks_ended c.args.actor.now.me.0 c.requires.at c.in-Ok.rooted c.root_within.new.actor.me.0 (c.in-Ok.ensures {u = tt}).rooted c.args.start c.requires.start (ne_eqb
    c.in-Ok.rooted.generation c.args.start c.if-rooted-start.false)

pub returns-in-Err-clause-asked : goal.returns-in-Err-clause-asked
returns-in-Err-clause-asked c = asks_spent c.args.actor.now.me.0 c.in-Err.field-0 c.root_within.new.actor.me.0 (c.in-Err.ensures {u = tt}).left
