use Rattle.proof_straight.proofs.Roots.Copying.{snapshots_straight}
use Rattle.proof_straight.proofs.laws.snapshots_straight.Goals as goal

pub returns : goal.returns
returns c = snapshots_straight
