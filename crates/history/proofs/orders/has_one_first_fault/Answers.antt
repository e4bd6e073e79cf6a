use Rattle.history.proofs.OneFault.{one_first_fault}
use Rattle.history.proofs.orders.has_one_first_fault.Goals as goal

pub returns : goal.returns
returns c = one_first_fault
