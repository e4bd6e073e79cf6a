use Rattle.std.proofs.Common.{◌≤◌, ◌∙◌, sym, subst}
use Rattle.history.specs.declared.replies.Reply.TheVariants as reply
use Rattle.lock_free.proofs.CallEnds.{given_end, given_same, refused_so, refused_stock}
use Rattle.lock_free.proofs.CallsRunOn.{may_give_up}
use Rattle.lock_free.proofs.seating.refuse.Goals as goal

pub give_all_up-requires-clause-may : goal.give_all_up-requires-clause-may
give_all_up-requires-clause-may c = may_give_up c.args.actor.now.me.0 reply.NoSlots c.requires.may

pub finish-requires-clause-its : goal.finish-requires-clause-its
finish-requires-clause-its c =
    (given_same c.args.actor.now.me.0 c.give_all_up.new.actor.me.0 c.give_all_up.new.actor.me.0 reply.NoSlots c.requires.may c.give_all_up.ensures.gave).0 ∙ c.requires.its

pub finish-requires-clause-few : goal.finish-requires-clause-few
finish-requires-clause-few c =
    let same = given_same c.args.actor.now.me.0 c.give_all_up.new.actor.me.0 c.give_all_up.new.actor.me.0 reply.NoSlots c.requires.may c.give_all_up.ensures.gave in
    subst (λ n. n ≤ c.give_all_up.new.actor.me.0.sizes.seats) (sym same.0) (subst (λ (z : _). c.args.actor.now.me.0.actor ≤ z.seats) (sym same.1) c.requires.few)

pub finish-requires-clause-ending : goal.finish-requires-clause-ending
finish-requires-clause-ending c = (
  reply.NoSlots,
  given_end c.args.actor.now.me.0 c.give_all_up.new.actor.me.0 c.give_all_up.new.actor.me.0 reply.NoSlots c.requires.may c.give_all_up.ensures.gave,
)

pub returns-clause-stock : goal.returns-clause-stock
returns-clause-stock c =
    let v = c.args.actor.now.me.0 in
    let u = c.give_all_up.new.actor.me.0 in
    let after = c.finish.new.actor.me.0 in
    refused_stock v u after reply.NoSlots c.requires.may c.give_all_up.ensures.gave
    (c.finish.ensures.ended reply.NoSlots (given_end v u after reply.NoSlots c.requires.may c.give_all_up.ensures.gave)) c.give_all_up.new.stock c.give_all_up.ensures.stock

pub returns-clause-refused : goal.returns-clause-refused
returns-clause-refused c =
    refused_so c.args.actor.now.me.0 c.give_all_up.new.actor.me.0 c.finish.new.actor.me.0 reply.NoSlots c.requires.may c.give_all_up.ensures.gave c.finish.ensures.ended
