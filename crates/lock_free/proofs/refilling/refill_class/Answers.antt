use Rattle.std.proofs.Common.{refl, ◌∙◌}
use Rattle.lock_free.proofs.LetGo.{more_reclaimed, none_reclaimed}
use Rattle.lock_free.proofs.refilling.refill_class.Goals as goal

pub loop-init : goal.loop-init
loop-init c = (refl, c.requires.sound, c.requires.stock, none_reclaimed c.args.actor.now.me.0)

pub returns-then-not-take_fresh-clause-taken : goal.returns-then-not-take_fresh-clause-taken
returns-then-not-take_fresh-clause-taken c = more_reclaimed c.args.actor.now.me.0 c.loop.actor.me.0 c.take_fresh.new.actor.me.0 c.loop.invariant.3 c.take_fresh.ensures.taken

pub loop-preserved : goal.loop-preserved
loop-preserved c =
    let (t, sound, stock, taken) = c.loop.invariant in (
      c.take_fresh.ensures.table ∙ t,
      c.take_fresh.ensures.sound,
      c.take_fresh.ensures.stock,
      more_reclaimed c.args.actor.now.me.0 c.loop.actor.me.0 c.take_fresh.new.actor.me.0 taken c.take_fresh.ensures.taken,
    )
