use Rattle.lock_free.proofs.LimboStays.{stock_taken}
use Rattle.lock_free.proofs.LetGo.{none_taken, one_taken}
use Rattle.lock_free.proofs.refilling.take_fresh.Goals as goal

pub returns-in-Slot-clause-stock : goal.returns-in-Slot-clause-stock
returns-in-Slot-clause-stock c =
    let given = c.add.ensures in
    stock_taken c.args.stock.now c.add.new.self c.args.actor.now.me.0 c.try_take.new.actor.me.0 c.args.class c.in-Slot.slot (c.in-Slot.ensures {u = tt}).taken c.requires.stock given.sizes given.pool
    given.made given.limbo

pub returns-in-Slot-clause-taken : goal.returns-in-Slot-clause-taken
returns-in-Slot-clause-taken c = one_taken c.args.actor.now.me.0 c.try_take.new.actor.me.0 c.args.class c.in-Slot.slot c.requires.class (c.in-Slot.ensures {u = tt}).taken

pub returns-in-Full-clause-taken : goal.returns-in-Full-clause-taken
returns-in-Full-clause-taken c = none_taken c.args.actor.now.me.0 c.try_take.new.actor.me.0 (c.in-Full.ensures {u = tt}).taken

pub returns-in-Lost-clause-taken : goal.returns-in-Lost-clause-taken
returns-in-Lost-clause-taken c = none_taken c.args.actor.now.me.0 c.try_take.new.actor.me.0 (c.in-Lost.ensures {u = tt}).taken
