use Rattle.lock_free.proofs.CopiesHung.{are_newest, stock_hung}
use Rattle.lock_free.proofs.copies.hang_left.Goals as goal

pub hang_roots-requires-clause-newest : goal.hang_roots-requires-clause-newest
hang_roots-requires-clause-newest c =
    are_newest c.args.words.now.table_id.words c.args.actor.now.me.0 c.requires.sound c.args.stock.now c.args.offer c.requires.left c.see_news-roots.result c.see_news-roots.new.actor.me.0
    c.see_news-roots.ensures.seen

pub returns-clause-stock : goal.returns-clause-stock
returns-clause-stock c =
    stock_hung c.args.words.now.table_id.words c.args.actor.now.me.0 c.requires.sound c.args.stock.now c.args.offer c.requires.left c.see_news-roots.result c.see_news-roots.new.actor.me.0
    c.see_news-roots.ensures.seen c.hang_roots.new.stock c.hang_roots.new.actor.me.0 c.hang_roots.ensures.hung c.hang_roots.ensures.same c.hang_roots.ensures.limbo
