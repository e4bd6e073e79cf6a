use Rattle.proof_straight.proofs.Change.Parting.{parts_straight}
use Rattle.proof_straight.proofs.laws.parts_straight.Goals as goal

pub returns : goal.returns
returns c = parts_straight
