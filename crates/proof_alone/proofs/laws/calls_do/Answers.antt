use Rattle.proof_alone.proofs.Acting.{calls_do}
use Rattle.proof_alone.proofs.laws.calls_do.Goals as goal

pub returns : goal.returns
returns c = calls_do
