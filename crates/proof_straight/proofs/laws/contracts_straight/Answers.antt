use Rattle.proof_straight.proofs.Change.Contracted.{contracts_straight}
use Rattle.proof_straight.proofs.laws.contracts_straight.Goals as goal

pub returns : goal.returns
returns c = contracts_straight
