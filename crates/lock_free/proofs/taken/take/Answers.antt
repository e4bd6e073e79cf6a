use Rattle.std.proofs.Common.{sym, subst}
use Rattle.lock_free.specs.Stocks.{IsStock}
use Rattle.lock_free.proofs.LimboStays.{stock_taken}
use Rattle.lock_free.proofs.taken.take.Goals as goal

pub returns-in-Slot-clause-stock : goal.returns-in-Slot-clause-stock
returns-in-Slot-clause-stock c =
    let v = c.loop.actor.me.0 in
    let owns = subst (IsStock c.loop.stock) (sym c.loop.invariant.1) (subst (λ s. IsStock s c.args.actor.now.me.0) (sym c.loop.invariant.2) c.requires.stock) in
    let given = c.add.ensures in
    stock_taken c.loop.stock c.add.new.self v c.try_take.new.actor.me.0 c.args.class c.in-Slot.slot (c.in-Slot.ensures {u = tt}).taken owns given.sizes given.pool given.made given.limbo
