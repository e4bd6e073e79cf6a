use Rattle.proof_alone.proofs.Ending.{calls_end}
use Rattle.proof_alone.proofs.laws.calls_end.Goals as goal

pub returns : goal.returns
returns c = calls_end
