use Rattle.std.proofs.Common.{◌∙◌}
use Rattle.history.specs.declared.calls.Call.TheVariants.{Get}
use Rattle.lock_free.proofs.BetweenCalls.{same_seats}
use Rattle.lock_free.proofs.CallsUnderWay.{few_then, left_both}
use Rattle.lock_free.proofs.GetsWhole.{got_anew, got_first, refused_so}
use Rattle.lock_free.proofs.get_calls.get_at_last.Goals as goal

pub get_anew-requires-clause-its : goal.get_anew-requires-clause-its
get_anew-requires-clause-its g c = c.get_pinned-told.ensures.left.same.actor ∙ c.requires.its

pub get_anew-requires-clause-few : goal.get_anew-requires-clause-few
get_anew-requires-clause-few g c = few_then c.args.actor.now.me.0 c.get_pinned-told.new.actor.me.0 c.get_pinned-told.ensures.left.same c.requires.few

pub get_anew-requires-clause-ready : goal.get_anew-requires-clause-ready
get_anew-requires-clause-ready g c = c.get_pinned-told.ensures.left.rests

pub returns-then-gave_up-clause-left : goal.returns-then-gave_up-clause-left
returns-then-gave_up-clause-left g c =
    left_both c.args.actor.now.me.0 c.get_pinned-told.new.actor.me.0 c.get_anew.new.actor.me.0 c.get_pinned-told.ensures.left.same c.get_anew.ensures.left

pub returns-then-gave_up-clause-told : goal.returns-then-gave_up-clause-told
returns-then-gave_up-clause-told g c before same still =
    let call = Get c.args.handle c.args.key in
    let told = c.get_pinned-told in
    let w = told.new.actor.me.0 in
    got_anew before w c.get_anew.new.actor.me.0 c.args.handle c.args.key c.get_anew.result (same_seats before c.args.actor.now.me.0 w same told.ensures.left.same)
    (refused_so before w call told.result (c.gave_up.ensures c.if-gave_up.true) (told.ensures.told before still)) c.get_anew.ensures.told

pub returns-else-gave_up-clause-told : goal.returns-else-gave_up-clause-told
returns-else-gave_up-clause-told g c before same still =
    let told = c.get_pinned-told in
    let w = told.new.actor.me.0 in
    got_first before w (Get c.args.handle c.args.key) told.result (same_seats before c.args.actor.now.me.0 w same told.ensures.left.same) (told.ensures.told before still)
