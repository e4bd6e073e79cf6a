use Rattle.std.proofs.Common.{◌≡◌, sym, subst}
use Rattle.proof_runs.specs.Legality.{InOrder, writable_in}
use Rattle.proof_runs.proofs.Legality.{kind_in_order}
use Rattle.step_machine.proofs.machine.Machine.is_writable.Goals as goal

pub returns-clause-in_order : goal.returns-clause-in_order
returns-clause-in_order c =
    subst (λ told. InOrder c.args.self.now (λ world. told ≡ writable_in world c.args.handle)) (sym c.has_writable.ensures) (kind_in_order c.args.self.now c.explained.ensures c.args.handle)
