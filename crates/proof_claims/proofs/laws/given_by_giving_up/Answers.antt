use Rattle.proof_claims.proofs.LeftAtGivingUp.{given_by_giving_up as law}
use Rattle.proof_claims.proofs.laws.given_by_giving_up.Goals as goal

pub returns : goal.returns
returns c limits steps s actor operation k ok keys runs is = law limits steps s actor operation k ok keys runs is
