use Rattle.proof_claims.proofs.Unlinked.{dropped_unlinked}
use Rattle.proof_claims.proofs.laws.dropped_is_unlinked.Goals as goal

pub returns : goal.returns
returns c limits steps j ok dropped followed = dropped_unlinked limits ok steps j dropped followed
