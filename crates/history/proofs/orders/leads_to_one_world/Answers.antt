use Rattle.history.proofs.OneWorld.{leads_to_one_world}
use Rattle.history.proofs.orders.leads_to_one_world.Goals as goal

pub returns : goal.returns
returns c = leads_to_one_world
