use Rattle.proof_claims.proofs.Outcomes.{each_held}
use Rattle.proof_claims.proofs.laws.references_are_held.Goals as goal

pub returns : goal.returns
returns c limits steps ok = each_held limits ok steps
