use Rattle.machine_model.proofs.Lasting.{life_changes_nothing as same}
use Rattle.machine_model.proofs.laws.life_changes_nothing.Goals as goal

pub returns : goal.returns
returns c = same
