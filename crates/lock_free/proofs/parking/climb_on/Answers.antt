use Rattle.lock_free.specs.Leaving.{IsClimbAfter}
use Rattle.lock_free.proofs.ParkedOn.{climbed_ends, decided_owns, still_owns, still_swaps, then_bare, way_called, wound_on}
use Rattle.lock_free.proofs.parking.climb_on.Goals as goal

pub swap_on-requires-clause-way : goal.swap_on-requires-clause-way
swap_on-requires-clause-way c = way_called c.args.actor.now.me.0 c.args.call c.args.access c.requires.called c.handle-handle.result c.handle-handle.ensures

pub swap_on-requires-clause-swapping : goal.swap_on-requires-clause-swapping
swap_on-requires-clause-swapping c = c.requires.parked.0

pub wind_up-requires-clause-bare : goal.wind_up-requires-clause-bare
wind_up-requires-clause-bare c =
    then_bare c.args.actor.now.me.0 c.args.swapping c.requires.parked.0 c.in-Ok.field-0 c.swap_on.new.actor.me.0 (c.in-Ok.ensures {u = tt}).done

pub wind_up-requires-clause-ends : goal.wind_up-requires-clause-ends
wind_up-requires-clause-ends c =
    climbed_ends c.args.actor.now.me.0 c.args.swapping c.requires.parked.0 c.in-Ok.field-0 c.swap_on.new.actor.me.0 (c.in-Ok.ensures {u = tt}).done c.args.call c.args.access c.requires.called
    c.args.former c.requires.parked.1

pub returns-in-Ok-clause-stock : goal.returns-in-Ok-clause-stock
returns-in-Ok-clause-stock c =
    let v = c.args.actor.now.me.0 in
    let w = c.swap_on.new.actor.me.0 in
    c.wind_up.ensures.stays c.swap_on.new.stock (decided_owns v c.args.swapping c.requires.parked.0 c.in-Ok.field-0 w (c.in-Ok.ensures {u = tt}).done
    c.args.stock.now c.swap_on.new.stock c.requires.stock c.swap_on.ensures.same c.swap_on.ensures.limbo)

pub returns-in-Ok-clause-run : goal.returns-in-Ok-clause-run
returns-in-Ok-clause-run c =
    wound_on c.args.actor.now.me.0 c.args.swapping c.requires.parked.0 c.in-Ok.field-0 c.swap_on.new.actor.me.0 (c.in-Ok.ensures {u = tt}).done c.wind_up.result c.wind_up.new.actor.me.0
    c.wind_up.ensures.wound

pub returns-in-Err-clause-stock : goal.returns-in-Err-clause-stock
returns-in-Err-clause-stock c =
    still_owns (IsClimbAfter c.args.former) c.args.actor.now.me.0 c.args.swapping c.in-Err.next c.swap_on.new.actor.me.0 c.requires.parked (c.in-Err.ensures {u = tt}).on
    c.args.stock.now c.swap_on.new.stock c.requires.stock c.swap_on.ensures.same c.swap_on.ensures.limbo

pub returns-in-Err-clause-run : goal.returns-in-Err-clause-run
returns-in-Err-clause-run c =
    let on = (c.in-Err.ensures {u = tt}).on in
    (on.on, still_swaps (IsClimbAfter c.args.former) c.args.actor.now.me.0 c.args.swapping c.in-Err.next c.swap_on.new.actor.me.0 c.requires.parked on)
