use Rattle.lock_free.proofs.CopyGifts.{holds_fresh, saw_empty}
use Rattle.lock_free.proofs.copy_gifts.see_empty.Goals as goal

pub see_indirection-link-requires-clause-held : goal.see_indirection-link-requires-clause-held
see_indirection-link-requires-clause-held c =
    holds_fresh c.args.words.now.table_id.words c.args.actor.now.me.0 c.requires.sound c.args.offer c.requires.known c.requires.concluding.0 c.requires.concluding.1 c.see_news-root.new.actor.me.0
    c.see_news-root.ensures.sound c.see_news-root.result c.see_news-root.ensures.seen

pub returns-clause-saw : goal.returns-clause-saw
returns-clause-saw c =
    saw_empty c.args.words.now.table_id.words c.args.actor.now.me.0 c.requires.sound c.args.offer c.requires.known c.requires.concluding.0 c.requires.concluding.1 c.see_news-root.new.actor.me.0
    c.see_news-root.ensures.sound c.see_news-root.result c.see_news-root.ensures.seen c.see_indirection-link.new.actor.me.0 c.see_indirection-link.result c.see_indirection-link.ensures.seen
