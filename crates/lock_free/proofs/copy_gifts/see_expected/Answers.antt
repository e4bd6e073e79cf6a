use Rattle.lock_free.proofs.CopyGifts.{holds_expected, saw_expected}
use Rattle.lock_free.proofs.copy_gifts.see_expected.Goals as goal

pub see_main-header-requires-clause-held : goal.see_main-header-requires-clause-held
see_main-header-requires-clause-held c =
    holds_expected c.args.words.now.table_id.words c.args.actor.now.me.0 c.requires.sound c.args.offer c.requires.known c.requires.concluding.0 c.requires.concluding.1 c.see_olds-slot.new.actor.me.0
    c.see_olds-slot.ensures.sound c.see_olds-slot.result c.see_olds-slot.ensures.seen

pub returns-clause-saw : goal.returns-clause-saw
returns-clause-saw c =
    saw_expected c.args.words.now.table_id.words c.args.actor.now.me.0 c.requires.sound c.args.offer c.requires.known c.requires.concluding.0 c.requires.concluding.1 c.see_olds-slot.new.actor.me.0
    c.see_olds-slot.ensures.sound c.see_olds-slot.result c.see_olds-slot.ensures.seen c.see_main-header.new.actor.me.0 c.see_main-header.ensures.sound c.see_main-header.result
    c.see_main-header.ensures.seen c.class_of.result c.class_of.ensures
