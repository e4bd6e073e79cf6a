use Rattle.proof_order.proofs.Views.Unconditional.{books_of}
use Rattle.proof_order.proofs.laws.orders.histories_well_formed.Goals as goal

pub returns : goal.returns
returns c limits steps = (books_of limits steps).well_formed
