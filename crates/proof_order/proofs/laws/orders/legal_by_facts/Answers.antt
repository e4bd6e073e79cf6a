use Rattle.proof_order.proofs.Views.Explained.{legal_by_facts}
use Rattle.proof_order.proofs.laws.orders.legal_by_facts.Goals as goal

pub returns : goal.returns
returns c = legal_by_facts
