use Rattle.proof_straight.proofs.Way.Unchanged.{answers_straight}
use Rattle.proof_straight.proofs.laws.answers_straight.Goals as goal

pub returns : goal.returns
returns c = answers_straight
