use Rattle.proof_memory.proofs.Holding.Privates.{privates_once as its}
use Rattle.proof_memory.proofs.laws.privates_once.Goals as goal

pub returns : goal.returns
returns c = its
