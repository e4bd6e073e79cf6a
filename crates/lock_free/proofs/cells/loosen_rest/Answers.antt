use Rattle.std.proofs.Common.{refl, ◌∙◌}
use Rattle.lock_free.proofs.CellStock.{given_both, given_none, given_unopened}
use Rattle.lock_free.proofs.cells.loosen_rest.Goals as goal

pub loop-init : goal.loop-init
loop-init c = (refl, c.requires.sound, c.requires.stock, c.requires.unopened, given_none c.args.actor.now.me.0)

pub loop-preserved : goal.loop-preserved
loop-preserved c =
    let (table, sound, stock, unopened, given) = c.loop.invariant in (
      c.loosen_one.ensures.table ∙ table,
      c.loosen_one.ensures.sound,
      c.loosen_one.ensures.stock,
      given_unopened c.loop.actor.me.0 c.loosen_one.new.actor.me.0 c.loosen_one.ensures.given unopened,
      given_both c.args.actor.now.me.0 c.loop.actor.me.0 c.loosen_one.new.actor.me.0 given c.loosen_one.ensures.given,
    )
