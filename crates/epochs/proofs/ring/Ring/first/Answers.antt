use Rattle.std.proofs.Common.{sym, ap, ◌∙◌, arith}
use Rattle.epochs.specs.Rings.{Ringed}
use Rattle.epochs.proofs.Turns.{first_none, first_some}
use Rattle.epochs.proofs.ring.Ring.first.Goals as goal

pub returns-then-first-self-clause-first : goal.returns-then-first-self-clause-first
returns-then-first-self-clause-first c = sym (ap (λ (b : Ringed). b.bags.oldest) c.self.view_is)
    ∙ first_none c.self.inside.next.words c.self.inside.back.words c.self.inside.is_in.marks c.self.inside.size c.self.inside.first c.self.inside.second c.self.inside.third c.self.inside.len
    c.self.inside.oldest.items c.self.inside.middle.items c.self.inside.present.items c.self.invariant c.read-first.result c.read-first.ensures.link c.if-first-self.true

pub returns-clause-first : goal.returns-clause-first
returns-clause-first c =
    let found = first_some c.self.inside.next.words c.self.inside.back.words c.self.inside.is_in.marks c.self.inside.size c.self.inside.first c.self.inside.second c.self.inside.third
    c.self.inside.len c.self.inside.oldest.items c.self.inside.middle.items c.self.inside.present.items c.self.invariant c.read-first.result c.read-first.ensures.link c.if-first-self.false in
    (found.0, found.1, sym (ap (λ (b : Ringed). b.bags.oldest) c.self.view_is) ∙ found.2, found.3, omega (arith, ap (λ (b : Ringed). b.bags.size) c.self.view_is))
