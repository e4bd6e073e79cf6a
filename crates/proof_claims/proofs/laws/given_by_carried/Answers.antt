use Rattle.proof_claims.proofs.LeftAtComplete.{given_by_carried as law}
use Rattle.proof_claims.proofs.laws.given_by_carried.Goals as goal

pub returns : goal.returns
returns c limits steps actor offer main k ok keys sees done = law limits steps actor offer main k ok keys sees done
