use Rattle.std.proofs.Common.{◌∙◌}
use Rattle.lock_free.proofs.CallsUnderWay.{few_then, left_both}
use Rattle.lock_free.proofs.WholeCalls.{keyed_tried}
use Rattle.lock_free.proofs.slot_waits.key_at_last.Goals as goal

pub wait_for_slots-requires-clause-its : goal.wait_for_slots-requires-clause-its
wait_for_slots-requires-clause-its g c = c.run_call-told.ensures.left.same.actor ∙ c.requires.its

pub wait_for_slots-requires-clause-few : goal.wait_for_slots-requires-clause-few
wait_for_slots-requires-clause-few g c = few_then c.args.actor.now.me.0 c.run_call-told.new.actor.me.0 c.run_call-told.ensures.left.same c.requires.few

pub wait_for_slots-requires-clause-ready : goal.wait_for_slots-requires-clause-ready
wait_for_slots-requires-clause-ready g c = c.run_call-told.ensures.left.rests

pub wait_for_slots-requires-clause-tried : goal.wait_for_slots-requires-clause-tried
wait_for_slots-requires-clause-tried g c = keyed_tried c.args.call c.requires.keyed

pub returns-clause-told : goal.returns-clause-told
returns-clause-told g c = c.wait_for_slots.ensures.told c.args.actor.now.me.0 c.run_call-told.ensures.left.same c.run_call-told.ensures.told

pub returns-clause-left : goal.returns-clause-left
returns-clause-left g c = left_both c.args.actor.now.me.0 c.run_call-told.new.actor.me.0 c.wait_for_slots.new.actor.me.0 c.run_call-told.ensures.left.same c.wait_for_slots.ensures.left
