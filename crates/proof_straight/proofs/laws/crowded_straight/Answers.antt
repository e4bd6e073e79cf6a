use Rattle.proof_straight.proofs.Way.Unchanged.{crowded_straight}
use Rattle.proof_straight.proofs.laws.crowded_straight.Goals as goal

pub returns : goal.returns
returns c = crowded_straight
