use Rattle.proof_alone.proofs.Ending.{calls_go_on}
use Rattle.proof_alone.proofs.laws.calls_go_on.Goals as goal

pub returns : goal.returns
returns c = calls_go_on
