use Rattle.std.proofs.Common.{refl, ◌∙◌}
use Rattle.lock_free.proofs.CellStock.{given_both, given_none, given_unopened}
use Rattle.lock_free.proofs.cells.give_class.Goals as goal

pub loop-n-init : goal.loop-n-init
loop-n-init c =
    let first = c.loosen_rest.ensures in let w = c.loosen_rest.new.actor.me.0 in (
      refl,
      first.sound,
      first.stock,
      given_unopened c.args.actor.now.me.0 w first.given c.requires.unopened,
      given_none w,
    )

pub loop-n-preserved : goal.loop-n-preserved
loop-n-preserved c =
    let (table, sound, stock, unopened, given) = c.loop-n.invariant in (
      c.give_one.ensures.table ∙ table,
      c.give_one.ensures.sound,
      c.give_one.ensures.stock,
      given_unopened c.loop-n.actor.me.0 c.give_one.new.actor.me.0 c.give_one.ensures.given unopened,
      given_both c.loosen_rest.new.actor.me.0 c.loop-n.actor.me.0 c.give_one.new.actor.me.0 given c.give_one.ensures.given,
    )

pub returns-then-first_loose-eq0-clause-given : goal.returns-then-first_loose-eq0-clause-given
returns-then-first_loose-eq0-clause-given c =
    given_both c.args.actor.now.me.0 c.loosen_rest.new.actor.me.0 c.loop-n.actor.me.0 c.loosen_rest.ensures.given c.loop-n.invariant.4

pub returns-clause-given : goal.returns-clause-given
returns-clause-given c = given_both c.args.actor.now.me.0 c.loosen_rest.new.actor.me.0 c.loop-n.actor.me.0 c.loosen_rest.ensures.given c.loop-n.invariant.4
