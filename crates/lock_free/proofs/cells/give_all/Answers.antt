use Rattle.lock_free.proofs.CellStock.{given_both}
use Rattle.lock_free.proofs.cells.give_all.Goals as goal

pub returns-clause-given : goal.returns-clause-given
returns-clause-given c =
    let v = c.args.actor.now.me.0 in
    let first = c.give_class.new.actor.me.0 in
    let second = c.give_class-2.new.actor.me.0 in
    given_both v second c.give_class-3.new.actor.me.0 (given_both v first second c.give_class.ensures.given c.give_class-2.ensures.given) c.give_class-3.ensures.given
