use Rattle.lock_free.proofs.Settles.{held, former_small, restore_ready, puts_back, missed_it}
use Rattle.lock_free.proofs.reading.put_back.Goals as goal

pub see_main-header-requires-clause-held : goal.see_main-header-requires-clause-held
see_main-header-requires-clause-held c = held c.args.actor.now.me.0 c.args.indirection c.args.link c.args.former c.requires.failed

pub restore-requires-clause-named : goal.restore-requires-clause-named
restore-requires-clause-named c = former_small c.args.actor.now.me.0 c.args.indirection c.args.link c.args.former c.requires.failed c.args.words.now.table_id.words c.requires.sound

pub restore-requires-clause-restoring : goal.restore-requires-clause-restoring
restore-requires-clause-restoring c =
    let n = c.args.words.now.table_id.words in
    restore_ready c.args.actor.now.me.0 c.args.indirection c.args.link c.args.former c.requires.failed n n c.see_main-header.new.actor.me.0 c.requires.sound c.see_main-header.ensures.sound
    c.see_main-header.result
    c.see_main-header.ensures.seen

pub returns-then-restore-clause-passed : goal.returns-then-restore-clause-passed
returns-then-restore-clause-passed c =
    let n = c.args.words.now.table_id.words in
    puts_back c.args.actor.now.me.0 c.args.indirection c.args.link c.args.former c.requires.failed n n c.see_main-header.new.actor.me.0 c.requires.sound c.see_main-header.ensures.sound
    c.see_main-header.result
    c.see_main-header.ensures.seen n c.restore.new.actor.me.0 c.restore.ensures.sound c.restore.result c.restore.ensures.restored c.if-restore.true

pub returns-else-restore-clause-passed : goal.returns-else-restore-clause-passed
returns-else-restore-clause-passed c =
    let n = c.args.words.now.table_id.words in
    λ j x is.
    missed_it c.args.actor.now.me.0 c.args.indirection c.args.link c.args.former c.requires.failed n n c.see_main-header.new.actor.me.0 c.requires.sound c.see_main-header.ensures.sound
    c.see_main-header.result
    c.see_main-header.ensures.seen n c.restore.new.actor.me.0 c.restore.ensures.sound c.restore.result c.restore.ensures.restored c.if-restore.false
