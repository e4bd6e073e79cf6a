use Rattle.machine_model.proofs.Refused.{refused_alone}
use Rattle.machine_model.proofs.laws.refused_for_want_alone.Goals as goal

pub returns : goal.returns
returns c = refused_alone
