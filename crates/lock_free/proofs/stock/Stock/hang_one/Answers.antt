use Rattle.lock_free.proofs.HungNext.{last_hung, last_next}
use Rattle.lock_free.proofs.stock.Stock.hang_one.Goals as goal

pub hang_next-requires-clause-next : goal.hang_next-requires-clause-next
hang_next-requires-clause-next c = last_next c.args.self.now.limbo c.args.actor.now.me.0 c.args.kind c.args.class c.args.slot c.requires.newest

pub returns-clause-limbo : goal.returns-clause-limbo
returns-clause-limbo c =
    last_hung c.hang_next.new.self.limbo c.args.actor.now.me.0 c.hang_next.new.actor.me.0 c.hang_next.ensures.hung
    (c.hang_next.ensures.limbo (last_next c.args.self.now.limbo c.args.actor.now.me.0 c.args.kind c.args.class c.args.slot c.requires.newest))
