use Rattle.machine_model.proofs.Numbers.{least_chosen}
use Rattle.machine_model.proofs.laws.least_is_chosen.Goals as goal

pub returns : goal.returns
returns c = least_chosen
