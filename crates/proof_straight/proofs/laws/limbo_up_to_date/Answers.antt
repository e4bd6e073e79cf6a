use Rattle.proof_straight.proofs.Runs.Resting.{limbo_up_to_date}
use Rattle.proof_straight.proofs.laws.limbo_up_to_date.Goals as goal

pub returns : goal.returns
returns c = limbo_up_to_date
