use Rattle.proof_straight.proofs.Roots.Copying.{clears_straight}
use Rattle.proof_straight.proofs.laws.clears_straight.Goals as goal

pub returns : goal.returns
returns c = clears_straight
