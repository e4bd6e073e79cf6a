use Rattle.proof_claims.proofs.LeftAtCheck.{given_by_shared as law}
use Rattle.proof_claims.proofs.laws.given_by_shared.Goals as goal

pub returns : goal.returns
returns c limits steps actor i m f k ok keys h shared = law limits steps actor i m f k ok keys h shared
