use Rattle.proof_straight.proofs.Change.Changes.{sets_straight}
use Rattle.proof_straight.proofs.laws.sets_straight.Goals as goal

pub returns : goal.returns
returns c = sets_straight
