use Rattle.proof_linearizable.proofs.Legal.{alone_it_acts}
use Rattle.proof_linearizable.proofs.laws.alone_it_acts.Goals as goal

pub returns : goal.returns
returns c = alone_it_acts
