use Rattle.machine_model.proofs.Refused.{readers_never_refused as never}
use Rattle.machine_model.proofs.laws.readers_never_refused.Goals as goal

pub returns : goal.returns
returns c = never
