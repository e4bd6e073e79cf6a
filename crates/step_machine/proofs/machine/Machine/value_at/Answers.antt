use Rattle.proof_runs.proofs.Legality.{if_has}
use Rattle.step_machine.proofs.machine.Machine.value_at.Goals as goal

pub returns-clause-in_order : goal.returns-clause-in_order
returns-clause-in_order c = if_has c.args.self.now c.explained.ensures c.args.handle c.args.key c.found_at.result c.found_at.ensures.value c.found_at.ensures.open
