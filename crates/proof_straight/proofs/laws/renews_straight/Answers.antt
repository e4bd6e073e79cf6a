use Rattle.proof_straight.proofs.Renewal.Renews.{renews_straight}
use Rattle.proof_straight.proofs.laws.renews_straight.Goals as goal

pub returns : goal.returns
returns c = renews_straight
