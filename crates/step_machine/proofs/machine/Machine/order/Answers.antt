use Rattle.proof_runs.proofs.Legality.{if_leads, if_legal}
use Rattle.step_machine.proofs.machine.Machine.order.Goals as goal

pub returns-clause-legal : goal.returns-clause-legal
returns-clause-legal c = if_legal c.args.self.now c.explained.ensures c.ids_by_place.result c.ids_by_place.ensures.order

pub returns-clause-leads : goal.returns-clause-leads
returns-clause-leads c = if_leads c.args.self.now c.explained.ensures c.ids_by_place.result c.ids_by_place.ensures.order
