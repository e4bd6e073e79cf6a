use Rattle.std.proofs.Common.{◌<◌, All, sym, subst}
use Rattle.chronicle.specs.Chronicled.{Chronicled}
use Rattle.chronicle.proofs.ClosingSteps.{steps_later}
use Rattle.chronicle.proofs.chronicle.Chronicle.close.Goals as goal

pub close-requires-2-clause-later : goal.close-requires-2-clause-later
close-requires-2-clause-later c =
    let later = subst (λ (v : Chronicled). All (λ closing. closing.step < c.args.step) v.past.closings) (sym c.self.view_is) c.requires.can.later in
    steps_later c.self.inside.closings.closings c.self.inside.ordered.closings c.args.step c.self.invariant.0.closed later
