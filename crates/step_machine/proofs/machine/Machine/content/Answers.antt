use Rattle.proof_runs.proofs.Legality.{if_closed, if_in_order}
use Rattle.step_machine.proofs.machine.Machine.content.Goals as goal

pub returns-clause-in_order : goal.returns-clause-in_order
returns-clause-in_order c = if_in_order c.args.self.now c.explained.ensures c.args.handle c.pairs_of.result c.pairs_of.ensures.pairs

pub returns-clause-closed : goal.returns-clause-closed
returns-clause-closed c = if_closed c.args.self.now c.explained.ensures c.args.handle c.pairs_of.result c.pairs_of.ensures.refused
