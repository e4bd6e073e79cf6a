use Rattle.proof_operations.proofs.Privates.{privates_short}
use Rattle.proof_operations.proofs.laws.privates_are_short.Goals as goal

pub returns : goal.returns
returns c = privates_short
