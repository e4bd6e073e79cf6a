use Rattle.proof_claims.proofs.Unheld.{garbage}
use Rattle.proof_claims.proofs.laws.unheld_is_garbage.Goals as goal

pub returns : goal.returns
returns c limits steps k ok in_use private unheld = garbage limits ok steps k unheld in_use private
