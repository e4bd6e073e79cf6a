use Rattle.proof_straight.proofs.Roots.Copying.{freezes_straight}
use Rattle.proof_straight.proofs.laws.freezes_straight.Goals as goal

pub returns : goal.returns
returns c = freezes_straight
