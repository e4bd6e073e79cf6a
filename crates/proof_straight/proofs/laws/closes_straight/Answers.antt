use Rattle.proof_straight.proofs.Roots.Closing.{closes_straight}
use Rattle.proof_straight.proofs.laws.closes_straight.Goals as goal

pub returns : goal.returns
returns c = closes_straight
