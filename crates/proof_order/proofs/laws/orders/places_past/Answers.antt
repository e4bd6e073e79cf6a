use Rattle.proof_order.proofs.History.PlacesPast.{places_past as all_past}
use Rattle.proof_order.proofs.laws.orders.places_past.Goals as goal

pub returns : goal.returns
returns c = all_past
