use Rattle.proof_claims.proofs.ClaimsDiffer.{claims_differ as law}
use Rattle.proof_claims.proofs.laws.claims_differ.Goals as goal

pub returns : goal.returns
returns c limits steps ok keys = law limits steps ok keys
