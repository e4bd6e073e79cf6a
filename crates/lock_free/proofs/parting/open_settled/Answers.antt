use Rattle.std.proofs.Common.{ap, ◌∙◌}
use Rattle.lock_free.specs.OwnOffers.{once_unopening}
use Rattle.lock_free.proofs.MovedOn.{done_now, is_open, is_reserved, opens_nothing}
use Rattle.lock_free.proofs.parting.open_settled.Goals as goal

pub open_handle-requires-clause-opened : goal.open_handle-requires-clause-opened
open_handle-requires-clause-opened c =
    is_open c.args.actor.now.me.0 c.requires.settled.0 c.args.offer c.args.opens c.args.is_writable c.args.is_carried_out c.requires.settled.1 c.in-Some.number c.in-Some.is
    c.if-is_carried_out.true

pub open_own-requires-clause-opening : goal.open_own-requires-clause-opening
open_own-requires-clause-opening c =
    is_reserved c.args.actor.now.me.0 c.requires.settled.0 c.args.offer c.args.opens c.args.is_writable c.args.is_carried_out c.requires.settled.1 c.in-Some.number c.in-Some.is
    c.if-is_carried_out.false

pub returns-in-None-clause-done : goal.returns-in-None-clause-done
returns-in-None-clause-done c =
    let own = c.requires.settled.1.0 in opens_nothing c.args.actor.now.me.0 own.its.its own.own (own.its_opens ∙ c.in-None.is)

pub returns-else-is_carried_out-clause-done : goal.returns-else-is_carried_out-clause-done
returns-else-is_carried_out-clause-done c =
    done_now once_unopening c.args.actor.now.me.0 c.open_own.new.actor.me.0 (ap (λ me. me.0) c.open_own.ensures.opened)
