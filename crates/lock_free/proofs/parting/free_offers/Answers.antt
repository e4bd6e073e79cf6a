use Rattle.std.proofs.Common.{refl, ◌∙◌}
use Rattle.lock_free.proofs.PartedStock.{more_freed, none_freed}
use Rattle.lock_free.proofs.parting.free_offers.Goals as goal

pub loop-done-init : goal.loop-done-init
loop-done-init c = (refl, c.requires.sound, c.requires.stock, none_freed c.args.actor.now.me.0)

pub loop-done-preserved : goal.loop-done-preserved
loop-done-preserved c =
    let l = c.loop-done in (
      c.free_first.ensures.table ∙ l.invariant.0,
      c.free_first.ensures.sound,
      c.free_first.ensures.stock,
      more_freed c.args.actor.now.me.0 l.actor.me.0 c.free_first.new.actor.me.0 l.invariant.3 c.free_first.ensures.freed,
    )
