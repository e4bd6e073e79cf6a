use Rattle.proof_straight.proofs.Change.Changes.{removes_straight}
use Rattle.proof_straight.proofs.laws.removes_straight.Goals as goal

pub returns : goal.returns
returns c = removes_straight
