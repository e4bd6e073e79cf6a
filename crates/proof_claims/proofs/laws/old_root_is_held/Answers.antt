use Rattle.proof_claims.proofs.LeftUntil.{old_root_is_held as law}
use Rattle.proof_claims.proofs.laws.old_root_is_held.Goals as goal

pub returns : goal.returns
returns call limits steps actor operation c ok runs on marked isnt = law limits steps actor operation c ok runs on marked isnt
