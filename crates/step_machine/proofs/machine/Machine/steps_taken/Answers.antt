use Rattle.std.proofs.Common.{◌≤◌, subst}
use Rattle.step_machine.specs.Vocabulary.{State}
use Rattle.step_machine.proofs.Bounds.{most_taken}
use Rattle.step_machine.proofs.machine.Machine.steps_taken.Goals as goal

pub returns-clause-most : goal.returns-clause-most
returns-clause-most c =
    let machine = c.args.self.now in
    let most = subst (λ (s : State). c.steps_taken.result ≤ s.limits.steps) c.body.ensures c.steps_taken.ensures.most in
    most_taken machine.limits machine.steps c.steps_taken.result most
