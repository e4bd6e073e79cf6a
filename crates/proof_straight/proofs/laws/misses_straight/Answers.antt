use Rattle.proof_straight.proofs.Way.Unchanged.{misses_straight}
use Rattle.proof_straight.proofs.laws.misses_straight.Goals as goal

pub returns : goal.returns
returns c = misses_straight
