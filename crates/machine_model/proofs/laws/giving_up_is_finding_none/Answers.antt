use Rattle.machine_model.proofs.GivingUp.{giving_up_is_finding_none as same}
use Rattle.machine_model.proofs.laws.giving_up_is_finding_none.Goals as goal

pub returns : goal.returns
returns c = same
