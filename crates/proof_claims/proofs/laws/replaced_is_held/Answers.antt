use Rattle.proof_claims.proofs.LeftUntil.{replaced_is_held as law}
use Rattle.proof_claims.proofs.laws.replaced_is_held.Goals as goal

pub returns : goal.returns
returns c limits steps actor operation why w ok keys runs on past none = law limits steps actor operation why w ok keys runs on past none
