use Rattle.proof_claims.proofs.Unheld.{unfollowed}
use Rattle.proof_claims.proofs.laws.unheld_is_unfollowed.Goals as goal

pub returns : goal.returns
returns c limits steps k ok unheld = unfollowed limits ok steps k unheld
