use Rattle.std.proofs.Common.{refl, ◌∙◌}
use Rattle.lock_free.proofs.LetGo.{more_reclaimed, none_reclaimed}
use Rattle.lock_free.proofs.slot_waits.wait_for_epoch.Goals as goal

pub loop-look-init : goal.loop-look-init
loop-look-init c = (refl, c.requires.sound, c.requires.stock, none_reclaimed c.args.actor.now.me.0)

pub loop-look-preserved : goal.loop-look-preserved
loop-look-preserved c =
    let (t, sound, stock, reclaimed) = c.loop-look.invariant in (
      c.make_free.ensures.table ∙ t,
      c.make_free.ensures.sound,
      c.make_free.ensures.stock,
      more_reclaimed c.args.actor.now.me.0 c.loop-look.actor.me.0 c.make_free.new.actor.me.0 reclaimed c.make_free.ensures.reclaimed,
    )

pub returns-then-epoch-clause-reclaimed : goal.returns-then-epoch-clause-reclaimed
returns-then-epoch-clause-reclaimed c =
    more_reclaimed c.args.actor.now.me.0 c.loop-look.actor.me.0 c.make_free.new.actor.me.0 c.loop-look.invariant.3 c.make_free.ensures.reclaimed
