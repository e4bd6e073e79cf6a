use Rattle.lock_free.proofs.CompletesLeft.{completed_on, expected3, known2, passing_there}
use Rattle.lock_free.proofs.rooting.is_expected_on.Goals as goal

pub read_on-requires-clause-passing : goal.read_on-requires-clause-passing
read_on-requires-clause-passing c = passing_there c.args.words.now.table_id.words c.args.actor.now.me.0 c.requires.sound c.args.way.handle c.args.completing c.requires.completing

pub returns-in-Again-clause-on : goal.returns-in-Again-clause-on
returns-in-Again-clause-on c =
    completed_on c.args.words.now.table_id.words c.args.actor.now.me.0 c.requires.sound c.args.way.handle c.args.completing c.requires.completing c.in-Again.from c.read_on.new.actor.me.0
    (c.in-Again.ensures {u = tt}).passed

pub see_olds-expected-requires-clause-known : goal.see_olds-expected-requires-clause-known
see_olds-expected-requires-clause-known c =
    known2 c.args.words.now.table_id.words c.args.actor.now.me.0 c.requires.sound c.args.way.handle c.args.completing c.requires.completing c.read_on.new.actor.me.0 c.read_on.ensures.sound
    c.in-Gives.given (c.in-Gives.ensures {u = tt}).passed

pub returns-in-Gives-clause-expected : goal.returns-in-Gives-clause-expected
returns-in-Gives-clause-expected c =
    expected3 c.args.words.now.table_id.words c.args.actor.now.me.0 c.requires.sound c.args.way.handle c.args.completing c.requires.completing c.read_on.new.actor.me.0 c.read_on.ensures.sound
    c.in-Gives.given (c.in-Gives.ensures {u = tt}).passed c.see_olds-expected.new.actor.me.0 c.see_olds-expected.result c.see_olds-expected.ensures.seen
