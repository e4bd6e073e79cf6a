use Rattle.std.proofs.Common.{true, false, refl}
use Rattle.lock_free.proofs.Settles.{decide_ready, commits, overtaken, fails}
use Rattle.lock_free.proofs.reading.settle_by.Goals as goal

pub decide-stood-requires-clause-deciding : goal.decide-stood-requires-clause-deciding
decide-stood-requires-clause-deciding c = decide_ready c.args.actor.now.me.0 c.args.link c.args.header c.args.licensed c.requires.deciding

pub returns-in-true-true-clause-passed : goal.returns-in-true-true-clause-passed
returns-in-true-true-clause-passed c =
    let n = c.args.words.now.table_id.words in
    commits c.args.actor.now.me.0 c.args.link c.args.header c.args.licensed c.requires.deciding n n c.decide-stood.new.actor.me.0 c.requires.sound c.decide-stood.ensures.sound true
    (c.in-true-true.ensures {u = tt}).decided c.in-true-true.is-0 refl

pub returns-in-true-false-clause-passed : goal.returns-in-true-false-clause-passed
returns-in-true-false-clause-passed c =
    let n = c.args.words.now.table_id.words in
    overtaken c.args.actor.now.me.0 c.args.link c.args.header c.args.licensed c.requires.deciding n n c.decide-stood.new.actor.me.0 c.requires.sound c.decide-stood.ensures.sound false
    (c.in-true-false.ensures {u = tt}).decided c.in-true-false.is-0 refl

pub returns-in-false-default-clause-passed : goal.returns-in-false-default-clause-passed
returns-in-false-default-clause-passed c =
    let n = c.args.words.now.table_id.words in
    λ j x is.
    fails c.args.actor.now.me.0 c.args.link c.args.header c.args.licensed c.requires.deciding n n c.decide-stood.new.actor.me.0 c.requires.sound c.decide-stood.ensures.sound
    c.decide-stood.result c.decide-stood.ensures.decided c.in-false-default.is-0
