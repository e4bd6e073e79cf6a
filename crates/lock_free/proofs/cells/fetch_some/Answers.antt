use Rattle.std.proofs.Common.{refl, ◌∙◌}
use Rattle.lock_free.proofs.CellStock.{fetched_both, fetched_none}
use Rattle.lock_free.proofs.cells.fetch_some.Goals as goal

pub loop-number-init : goal.loop-number-init
loop-number-init c =
    let first = c.take_up_some.ensures in (refl, first.sound, first.stock, first.room, fetched_none c.take_up_some.new.actor.me.0 c.args.class)

pub loop-number-preserved : goal.loop-number-preserved
loop-number-preserved c =
    let (table, sound, stock, room, fetched) = c.loop-number.invariant in
    let one = c.fetch_one.new.actor.me.0 in
    let next = c.take_up_some-in-loop-number.ensures in (
      next.table ∙ c.fetch_one.ensures.table ∙ table,
      next.sound,
      next.stock,
      next.room,
      fetched_both c.take_up_some.new.actor.me.0 one c.take_up_some-in-loop-number.new.actor.me.0 c.args.class
          (fetched_both c.take_up_some.new.actor.me.0 c.loop-number.actor.me.0 one c.args.class fetched c.fetch_one.ensures.fetched) next.fetched,
    )

pub returns-then-has_enough-clause-fetched : goal.returns-then-has_enough-clause-fetched
returns-then-has_enough-clause-fetched c =
    fetched_both c.args.actor.now.me.0 c.take_up_some.new.actor.me.0 c.loop-number.actor.me.0 c.args.class c.take_up_some.ensures.fetched c.loop-number.invariant.4

pub returns-clause-fetched : goal.returns-clause-fetched
returns-clause-fetched c =
    fetched_both c.args.actor.now.me.0 c.take_up_some.new.actor.me.0 c.loop-number.actor.me.0 c.args.class c.take_up_some.ensures.fetched c.loop-number.invariant.4
