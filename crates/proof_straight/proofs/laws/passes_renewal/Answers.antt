use Rattle.proof_straight.proofs.Renewal.Passing.{passes_renewal}
use Rattle.proof_straight.proofs.laws.passes_renewal.Goals as goal

pub returns : goal.returns
returns c = passes_renewal
