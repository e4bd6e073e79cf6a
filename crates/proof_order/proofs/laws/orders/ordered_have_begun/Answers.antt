use Rattle.proof_order.proofs.History.HaveBegun.{ordered_begun}
use Rattle.proof_order.proofs.laws.orders.ordered_have_begun.Goals as goal

pub returns : goal.returns
returns c = ordered_begun
