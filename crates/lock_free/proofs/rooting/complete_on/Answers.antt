use Rattle.lock_free.proofs.CompletesLeft.{helped_by}
use Rattle.lock_free.proofs.rooting.complete_on.Goals as goal

pub complete-requires-clause-completing : goal.complete-requires-clause-completing
complete-requires-clause-completing c = (c.in-Ok.ensures {u = tt}).expected.at

pub returns-in-Ok-clause-helped : goal.returns-in-Ok-clause-helped
returns-in-Ok-clause-helped c =
    helped_by c.args.words.now.table_id.words c.args.actor.now.me.0 c.is_expected_on.new.actor.me.0 c.args.completing.offer c.in-Ok.is_expected c.requires.sound (c.in-Ok.ensures {u = tt}).expected
    c.is_expected_on.ensures.sound c.complete.result c.complete.new.actor.me.0 c.complete.ensures.completed
