use Rattle.std.proofs.Common.{refl, ◌∙◌}
use Rattle.lock_free.proofs.CallsUnderWay.{few_then, left_both, rests_still}
use Rattle.lock_free.proofs.ToldAtLast.{in_vain_tidied, in_vain_told, left_tidied}
use Rattle.lock_free.proofs.slot_waits.call_anew.Goals as goal

pub loop-init : goal.loop-init
loop-init g c = (tt, tt, refl, c.requires.sound, c.requires.stock, rests_still c.args.actor.now.me.0 c.requires.ready, λ before vain. vain)

pub run_to_end-told-requires-clause-its : goal.run_to_end-told-requires-clause-its
run_to_end-told-requires-clause-its g c =
    (left_tidied c.args.actor.now.me.0 c.loop.actor.me.0 c.wait_for_epoch.new.actor.me.0 c.loop.invariant.5 c.wait_for_epoch.ensures.reclaimed).same.actor ∙ c.requires.its

pub run_to_end-told-requires-clause-few : goal.run_to_end-told-requires-clause-few
run_to_end-told-requires-clause-few g c =
    few_then c.args.actor.now.me.0 c.wait_for_epoch.new.actor.me.0
    (left_tidied c.args.actor.now.me.0 c.loop.actor.me.0 c.wait_for_epoch.new.actor.me.0 c.loop.invariant.5 c.wait_for_epoch.ensures.reclaimed).same c.requires.few

pub run_to_end-told-requires-clause-ready : goal.run_to_end-told-requires-clause-ready
run_to_end-told-requires-clause-ready g c =
    (left_tidied c.args.actor.now.me.0 c.loop.actor.me.0 c.wait_for_epoch.new.actor.me.0 c.loop.invariant.5 c.wait_for_epoch.ensures.reclaimed).rests

pub returns-then-not-begins_anew-clause-told : goal.returns-then-not-begins_anew-clause-told
returns-then-not-begins_anew-clause-told g c before vain =
    let w = c.wait_for_epoch.new.actor.me.0 in (
      w,
      in_vain_tidied before c.loop.actor.me.0 w c.args.call (c.loop.invariant.6 before vain) c.wait_for_epoch.ensures.reclaimed,
      c.run_to_end-told.ensures.left.same,
      c.run_to_end-told.ensures.told,
    )

pub returns-then-not-begins_anew-clause-left : goal.returns-then-not-begins_anew-clause-left
returns-then-not-begins_anew-clause-left g c =
    left_both c.args.actor.now.me.0 c.wait_for_epoch.new.actor.me.0 c.run_to_end-told.new.actor.me.0
    (left_tidied c.args.actor.now.me.0 c.loop.actor.me.0 c.wait_for_epoch.new.actor.me.0 c.loop.invariant.5 c.wait_for_epoch.ensures.reclaimed).same c.run_to_end-told.ensures.left

pub loop-preserved : goal.loop-preserved
loop-preserved g c =
    let w = c.wait_for_epoch.new.actor.me.0 in
    let x = c.run_to_end-told.new.actor.me.0 in
    let left = left_tidied c.args.actor.now.me.0 c.loop.actor.me.0 w c.loop.invariant.5 c.wait_for_epoch.ensures.reclaimed in (
      tt,
      tt,
      c.run_to_end-told.ensures.table ∙ (c.wait_for_epoch.ensures.table ∙ c.loop.invariant.2),
      c.run_to_end-told.ensures.sound,
      c.run_to_end-told.ensures.stock,
      left_both c.args.actor.now.me.0 w x left.same c.run_to_end-told.ensures.left,
      λ before vain.
          in_vain_told before w x c.args.call c.run_to_end-told.result
          (in_vain_tidied before c.loop.actor.me.0 w c.args.call (c.loop.invariant.6 before vain) c.wait_for_epoch.ensures.reclaimed)
          c.run_to_end-told.ensures.left.same (c.begins_anew.ensures c.if-not-begins_anew.false) c.run_to_end-told.ensures.told,
    )
