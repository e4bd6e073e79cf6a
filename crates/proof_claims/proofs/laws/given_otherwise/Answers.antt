use Rattle.proof_claims.proofs.LeftOtherwise.{given_otherwise as law}
use Rattle.proof_claims.proofs.laws.given_otherwise.Goals as goal

pub returns : goal.returns
returns c limits steps s k otherwise = law limits steps s k otherwise
