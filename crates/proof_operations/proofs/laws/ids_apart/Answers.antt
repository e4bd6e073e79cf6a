use Rattle.proof_operations.proofs.Given.{ids_apart as its}
use Rattle.proof_operations.proofs.laws.ids_apart.Goals as goal

pub returns : goal.returns
returns c = its
