use Rattle.lock_free.proofs.LetGo.{more_reclaimed}
use Rattle.lock_free.proofs.PartedStock.{freed_reclaimed}
use Rattle.lock_free.proofs.freeing.make_free.Goals as goal

pub returns-clause-reclaimed : goal.returns-clause-reclaimed
returns-clause-reclaimed c =
    let v = c.args.actor.now.me.0 in
    let w = c.reclaim_some.new.actor.me.0 in
    let x = c.free_offers.new.actor.me.0 in
    more_reclaimed v x c.refill.new.actor.me.0 (more_reclaimed v w x c.reclaim_some.ensures.reclaimed (freed_reclaimed w x c.free_offers.ensures.freed)) c.refill.ensures.taken
