use Rattle.lock_free.proofs.LetGo.{more_reclaimed}
use Rattle.lock_free.proofs.refilling.refill.Goals as goal

pub returns-clause-taken : goal.returns-clause-taken
returns-clause-taken c =
    let v = c.args.actor.now.me.0 in
    let first = c.refill_class.new.actor.me.0 in
    let second = c.refill_class-2.new.actor.me.0 in
    more_reclaimed v second c.refill_class-3.new.actor.me.0 (more_reclaimed v first second c.refill_class.ensures.taken c.refill_class-2.ensures.taken) c.refill_class-3.ensures.taken
