use Rattle.step_machine.specs.Vocabulary.{bounded}
use Rattle.proof_runs.proofs.Bounds.{in_bounds}
use Rattle.step_machine.proofs.machine.Machine.explained.Goals as goal

pub returns : goal.returns
returns c = c.every_order_is_legal.ensures (bounded c.args.self.now.limits) c.args.self.now.steps (in_bounds c.args.self.now.limits c.limits.ensures.in_range) c.steps.ensures.keys
