use Rattle.std.proofs.Common.{refl, ◌∙◌}
use Rattle.lock_free.proofs.CellStock.{fetched_both, fetched_none}
use Rattle.lock_free.proofs.cells.take_up_some.Goals as goal

pub loop-init : goal.loop-init
loop-init c = (refl, c.requires.sound, c.requires.stock, c.requires.room, fetched_none c.args.actor.now.me.0 c.args.class)

pub loop-preserved : goal.loop-preserved
loop-preserved c =
    let (table, sound, stock, room, fetched) = c.loop.invariant in (
      c.take_up_one.ensures.table ∙ table,
      c.take_up_one.ensures.sound,
      c.take_up_one.ensures.stock,
      c.take_up_one.ensures.room,
      fetched_both c.args.actor.now.me.0 c.loop.actor.me.0 c.take_up_one.new.actor.me.0 c.args.class fetched c.take_up_one.ensures.fetched,
    )
