use Rattle.proof_order.proofs.Views.Unconditional.{ordered}
use Rattle.proof_order.proofs.laws.orders.answered_are_ordered.Goals as goal

pub returns : goal.returns
returns c = ordered
