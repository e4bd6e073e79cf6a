use Rattle.lock_free.proofs.CallsUnderWay.{rests_still}
use Rattle.lock_free.proofs.ToldAtLast.{in_vain_told, none_in_vain, told_first}
use Rattle.lock_free.proofs.slot_waits.wait_for_slots.Goals as goal

pub returns-then-begins_anew-clause-told : goal.returns-then-begins_anew-clause-told
returns-then-begins_anew-clause-told g c before same told =
    let v = c.args.actor.now.me.0 in
    c.call_anew.ensures.told before
    (in_vain_told before before v c.args.call c.args.told (none_in_vain before c.args.call) same (c.begins_anew.ensures c.if-begins_anew.true) told)

pub returns-else-begins_anew-clause-told : goal.returns-else-begins_anew-clause-told
returns-else-begins_anew-clause-told g c before same told = told_first before c.args.actor.now.me.0 c.args.call c.args.told same told

pub returns-else-begins_anew-clause-left : goal.returns-else-begins_anew-clause-left
returns-else-begins_anew-clause-left g c = rests_still c.args.actor.now.me.0 c.requires.ready
