use Rattle.machine_model.proofs.Numbers.{reserves_free}
use Rattle.machine_model.proofs.laws.begins_reserve_free.Goals as goal

pub returns : goal.returns
returns c = reserves_free
