use Rattle.std.proofs.Common.{refl, ◌∙◌}
use Rattle.lock_free.proofs.BetweenCalls.{same_seat, same_seats}
use Rattle.lock_free.proofs.CallsUnderWay.{few_then, left_both}
use Rattle.lock_free.proofs.try_runs.until_over.Goals as goal

pub loop-init : goal.loop-init
loop-init g c = (tt, tt, refl, c.requires.sound, c.requires.stock, (same_seat c.args.actor.now.me.0, (λ before call tried on. on)), c.requires.going)

pub try_on-requires-clause-its : goal.try_on-requires-clause-its
try_on-requires-clause-its g c = c.loop.invariant.5.0.actor ∙ c.requires.its

pub try_on-requires-clause-few : goal.try_on-requires-clause-few
try_on-requires-clause-few g c = few_then c.args.actor.now.me.0 c.loop.actor.me.0 c.loop.invariant.5.0 c.requires.few

pub loop-preserved : goal.loop-preserved
loop-preserved g c =
    let x = c.try_on in
    let on = c.in-UnderWay.ensures {u = tt} in
    let i = c.loop.invariant in (
      tt,
      tt,
      x.ensures.table ∙ i.2,
      x.ensures.sound,
      x.ensures.stock,
      (same_seats c.args.actor.now.me.0 c.loop.actor.me.0 x.new.actor.me.0 i.5.0 on.left.0, (λ before call tried at. on.run before call tried (i.5.1 before call tried at))),
      on.left.1,
    )

pub returns-in-Told-clause-told : goal.returns-in-Told-clause-told
returns-in-Told-clause-told g c before any tried at = (c.in-Told.ensures {u = tt}).run before any tried (c.loop.invariant.5.1 before any tried at)

pub returns-in-Told-clause-left : goal.returns-in-Told-clause-left
returns-in-Told-clause-left g c =
    left_both c.args.actor.now.me.0 c.loop.actor.me.0 c.try_on.new.actor.me.0 c.loop.invariant.5.0 (c.in-Told.ensures {u = tt}).left
