use Rattle.proof_claims.proofs.LeftAtComplete.{given_by_taken_back as law}
use Rattle.proof_claims.proofs.laws.given_by_taken_back.Goals as goal

pub returns : goal.returns
returns c limits steps actor offer main k ok keys sees undone = law limits steps actor offer main k ok keys sees undone
