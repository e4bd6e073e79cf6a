use Rattle.proof_claims.proofs.LeftAtCheck.{link_holds as law}
use Rattle.proof_claims.proofs.laws.link_holds.Goals as goal

pub returns : goal.returns
returns c limits steps actor i m f ok keys = law limits steps actor i m f ok keys
