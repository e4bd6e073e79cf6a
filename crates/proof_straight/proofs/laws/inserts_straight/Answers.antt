use Rattle.proof_straight.proofs.Change.Changes.{inserts_straight}
use Rattle.proof_straight.proofs.laws.inserts_straight.Goals as goal

pub returns : goal.returns
returns c = inserts_straight
