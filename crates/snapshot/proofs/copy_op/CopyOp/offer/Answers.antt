use Rattle.snapshot.proofs.Offering.{given_up, offers}
use Rattle.snapshot.proofs.copy_op.CopyOp.offer.Goals as goal

pub step-stood-requires-clause-ready : goal.step-stood-requires-clause-ready
step-stood-requires-clause-ready c = given_up c.requires.ready c.give_up.ensures.private c.give_up.ensures.others

pub returns-then-matches-clause-acts : goal.returns-then-matches-clause-acts
returns-then-matches-clause-acts c =
    offers
    c.args.offer.descriptor
    c.give_up.ensures.private
    c.give_up.ensures.heap
    c.give_up.ensures.others
    c.give_up.ensures.epochs
    c.give_up.ensures.few
    c.give_up.ensures.ticks
    c.step-stood.ensures.moves

pub returns-else-matches-clause-acts : goal.returns-else-matches-clause-acts
returns-else-matches-clause-acts c =
    offers
    c.args.offer.descriptor
    c.give_up.ensures.private
    c.give_up.ensures.heap
    c.give_up.ensures.others
    c.give_up.ensures.epochs
    c.give_up.ensures.few
    c.give_up.ensures.ticks
    c.step-stood.ensures.moves
