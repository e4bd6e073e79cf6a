use Rattle.std.proofs.Common.{Some, None, refl, sym, subst}
use Rattle.lock_free.specs.LinkReads.{CanGoOn, HasLinkAfter}
use Rattle.lock_free.proofs.first_passes.link_after.Goals as goal

pub returns-in-Gives-clause-link : goal.returns-in-Gives-clause-link
returns-in-Gives-clause-link c =
    subst (λ p. HasLinkAfter c.args.actor.now.me.0 p (Some c.in-Gives.given.link) c.args.actor.now.me.0) (sym c.in-Gives.is) (refl, refl)

pub read_on-requires-clause-way : goal.read_on-requires-clause-way
read_on-requires-clause-way c = (subst (CanGoOn c.args.actor.now.me.0 c.args.way c.args.indirection) c.in-Again.is c.requires.next).0

pub read_on-requires-clause-passing : goal.read_on-requires-clause-passing
read_on-requires-clause-passing c = (subst (CanGoOn c.args.actor.now.me.0 c.args.way c.args.indirection) c.in-Again.is c.requires.next).1

pub returns-in-Gives-read_on-clause-link : goal.returns-in-Gives-read_on-clause-link
returns-in-Gives-read_on-clause-link c =
    subst (λ p. HasLinkAfter c.args.actor.now.me.0 p (Some c.in-Gives-read_on.given.link) c.read_on.new.actor.me.0) (sym c.in-Again.is)
    (c.in-Gives-read_on.given.header, (c.in-Gives-read_on.ensures {u = tt}).passed)

pub returns-in-Again-read_on-clause-link : goal.returns-in-Again-read_on-clause-link
returns-in-Again-read_on-clause-link c =
    subst (λ p. HasLinkAfter c.args.actor.now.me.0 p None c.read_on.new.actor.me.0) (sym c.in-Again.is)
    (c.in-Again-read_on.field-0, (c.in-Again-read_on.ensures {u = tt}).passed)
