use Rattle.lock_free.specs.Leaving.{IsRepair}
use Rattle.lock_free.proofs.ParkedOn.{decided_owns, repaired, still_owns, still_swaps, way_called}
use Rattle.lock_free.proofs.parking.repair_on.Goals as goal

pub swap_on-requires-clause-way : goal.swap_on-requires-clause-way
swap_on-requires-clause-way c = way_called c.args.actor.now.me.0 c.args.call c.args.access c.requires.called c.handle-handle.result c.handle-handle.ensures

pub swap_on-requires-clause-swapping : goal.swap_on-requires-clause-swapping
swap_on-requires-clause-swapping c = c.requires.parked.0

pub returns-in-Ok-clause-stock : goal.returns-in-Ok-clause-stock
returns-in-Ok-clause-stock c =
    decided_owns c.args.actor.now.me.0 c.args.swapping c.requires.parked.0 c.in-Ok.field-0 c.swap_on.new.actor.me.0 (c.in-Ok.ensures {u = tt}).done
    c.args.stock.now c.swap_on.new.stock c.requires.stock c.swap_on.ensures.same c.swap_on.ensures.limbo

pub returns-in-Ok-clause-run : goal.returns-in-Ok-clause-run
returns-in-Ok-clause-run c =
    repaired c.args.actor.now.me.0 c.args.swapping c.requires.parked.0 c.in-Ok.field-0 c.swap_on.new.actor.me.0 (c.in-Ok.ensures {u = tt}).done c.requires.parked.1

pub returns-in-Err-clause-stock : goal.returns-in-Err-clause-stock
returns-in-Err-clause-stock c =
    still_owns IsRepair c.args.actor.now.me.0 c.args.swapping c.in-Err.next c.swap_on.new.actor.me.0 c.requires.parked (c.in-Err.ensures {u = tt}).on
    c.args.stock.now c.swap_on.new.stock c.requires.stock c.swap_on.ensures.same c.swap_on.ensures.limbo

pub returns-in-Err-clause-run : goal.returns-in-Err-clause-run
returns-in-Err-clause-run c =
    let on = (c.in-Err.ensures {u = tt}).on in
    (on.on, still_swaps IsRepair c.args.actor.now.me.0 c.args.swapping c.in-Err.next c.swap_on.new.actor.me.0 c.requires.parked on)
