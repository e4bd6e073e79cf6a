use Rattle.std.proofs.Common.{Ok, Err, refl, subst, ◌∙◌}
use Rattle.lock_free.specs.Calling.{CalledOrNot}
use Rattle.lock_free.proofs.Beginners.{calls_first, calls_more}
use Rattle.lock_free.proofs.calling.start.Goals as goal

pub loop-init : goal.loop-init
loop-init g c = (tt, tt, refl, calls_first c.args.words.now.table_id.words c.args.call.now c.args.actor.now.me.0 c.requires.sound c.requires.caller)

pub returns-in-Ok-Some-clause-called : goal.returns-in-Ok-Some-clause-called
returns-in-Ok-Some-clause-called g c =
    let v = c.loop.actor.me.0 in
    let w = c.start_within.new.actor.me.0 in
    c.loop.invariant.3.then (Ok c.in-Ok-Some.way) w (subst (λ o. CalledOrNot v c.args.call.now (Ok o) w) c.in-Ok-Some.field-0-is (c.in-Ok-Some.ensures {u = tt}).called)

pub returns-in-Err-clause-called : goal.returns-in-Err-clause-called
returns-in-Err-clause-called g c = c.loop.invariant.3.then (Err c.in-Err.denial) c.start_within.new.actor.me.0 (c.in-Err.ensures {u = tt}).called

pub loop-preserved : goal.loop-preserved
loop-preserved g c =
    let v = c.loop.actor.me.0 in
    let w = c.start_within.new.actor.me.0 in (
      tt,
      tt,
      c.start_within.ensures.table ∙ c.loop.invariant.2,
      calls_more c.args.words.now.table_id.words c.args.call.now c.args.actor.now.me.0 v w c.loop.invariant.3 c.start_within.ensures.sound
          (subst (λ o. CalledOrNot v c.args.call.now (Ok o) w) c.in-Ok-None.field-0-is (c.in-Ok-None.ensures {u = tt}).called),
    )
