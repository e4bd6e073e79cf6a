use Rattle.std.proofs.Common.{◌∙◌}
use Rattle.lock_free.proofs.CallsUnderWay.{few_then, left_both}
use Rattle.lock_free.proofs.slot_waits.run_at_last.Goals as goal

pub wait_for_slots-requires-clause-its : goal.wait_for_slots-requires-clause-its
wait_for_slots-requires-clause-its g c = c.run_to_end-told.ensures.left.same.actor ∙ c.requires.its

pub wait_for_slots-requires-clause-few : goal.wait_for_slots-requires-clause-few
wait_for_slots-requires-clause-few g c = few_then c.args.actor.now.me.0 c.run_to_end-told.new.actor.me.0 c.run_to_end-told.ensures.left.same c.requires.few

pub wait_for_slots-requires-clause-ready : goal.wait_for_slots-requires-clause-ready
wait_for_slots-requires-clause-ready g c = c.run_to_end-told.ensures.left.rests

pub returns-clause-told : goal.returns-clause-told
returns-clause-told g c = c.wait_for_slots.ensures.told c.args.actor.now.me.0 c.run_to_end-told.ensures.left.same c.run_to_end-told.ensures.told

pub returns-clause-left : goal.returns-clause-left
returns-clause-left g c = left_both c.args.actor.now.me.0 c.run_to_end-told.new.actor.me.0 c.wait_for_slots.new.actor.me.0 c.run_to_end-told.ensures.left.same c.wait_for_slots.ensures.left
