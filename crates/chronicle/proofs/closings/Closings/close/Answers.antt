use Rattle.std.proofs.Common.{◌<◌, ◌∙◌, sym, ap, subst}
use Rattle.chronicle.specs.Closed.{Closed, closing_step}
use Rattle.chronicle.proofs.ClosingSteps.{found_after}
use Rattle.chronicle.proofs.closings.Closings.close.Goals as goal

pub invariant_of-self : goal.invariant_of-self
invariant_of-self c = λ generation.
    let within = subst (λ (v : Closed). c.args.generation < v.generations) (sym c.self.view_is) c.requires in
    found_after c.self.inside.steps.items c.close_once.new.steps.items c.self.inside.listed.items c.args.generation c.args.step c.self.invariant within
    c.close_once.ensures.items generation
    ∙ ap (λ closings. closing_step closings generation) (sym c.with_last-self-inside.ensures)
