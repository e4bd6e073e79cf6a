use Rattle.std.proofs.Common.{None, Err, sym, subst}
use Rattle.machine_model.specs.declared.steps.Step.TheVariants as steps
use Rattle.machine_core.specs.Vocabulary.{next, Worked}
use Rattle.proof_core.specs.Bounds.{Answers}
use Rattle.machine_core.specs.Seen.{seen}
use Rattle.machine_core.proofs.Steps.{refused}
use Rattle.machine_core.proofs.machine.Core.begin.Goals as goal

pub returns-in-Some-clause-answers : goal.returns-in-Some-clause-answers
returns-in-Some-clause-answers c =
    subst (λ (w : Worked). Answers (Err c.in-Some.refusal) w.state (next w.state (steps.Begin c.args.actor c.args.call None)) w.state) c.self.view_is
    (refused (seen c.self.inside.parts) (steps.Begin c.args.actor c.args.call None) c.in-Some.refusal (sym c.in-Some.ensures))
