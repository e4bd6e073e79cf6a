use Rattle.proof_claims.proofs.LeftAtClose.{given_by_close as law}
use Rattle.proof_claims.proofs.laws.given_by_close.Goals as goal

pub returns : goal.returns
returns c limits steps actor handle number root k ok keys stands = law limits steps actor handle number root k ok keys stands
