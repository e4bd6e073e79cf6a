use Rattle.proof_order.proofs.Views.Unconditional.{stay}
use Rattle.proof_order.proofs.laws.orders.places_stay.Goals as goal

pub returns : goal.returns
returns c = stay
