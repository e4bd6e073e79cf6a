use Rattle.proof_claims.proofs.Ownership.{owned_is_own}
use Rattle.proof_claims.proofs.laws.owned_is_own.Goals as goal

pub returns : goal.returns
returns c limits steps i m ok owned = owned_is_own limits ok steps i m owned
