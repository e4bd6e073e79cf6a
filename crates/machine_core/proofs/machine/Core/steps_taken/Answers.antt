use Rattle.std.proofs.Common.{◌≤◌, subst}
use Rattle.machine_core.specs.Seen.{seen}
use Rattle.proof_core.proofs.Bounded.{steps_within}
use Rattle.machine_core.specs.Vocabulary.{Worked}
use Rattle.machine_core.proofs.machine.Core.steps_taken.Goals as goal

pub returns-clause-most : goal.returns-clause-most
returns-clause-most c =
    let parts = c.self.inside.parts in
    subst (λ (w : Worked). parts.steps ≤ w.state.limits.steps) c.self.view_is (steps_within (seen parts) c.self.invariant.run)
