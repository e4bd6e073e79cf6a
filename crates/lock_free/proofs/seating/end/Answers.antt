use Rattle.lock_free.proofs.CallEnds.{ended_stock}
use Rattle.lock_free.proofs.seating.end.Goals as goal

pub returns-clause-stock : goal.returns-clause-stock
returns-clause-stock c =
    let (answer, at) = c.requires.ending in
    let owns = c.requires.stock in
    let given = c.hand_over.ensures in
    ended_stock c.args.actor.now.me.0 c.finish.new.actor.me.0 answer (c.finish.ensures.ended answer at) c.args.stock.now c.hand_over.new.self owns.sizes owns.pool owns.limbo given.sizes given.pool
    given.made
    given.limbo
