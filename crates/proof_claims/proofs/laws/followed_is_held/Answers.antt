use Rattle.proof_claims.proofs.Outcomes.{followed_held}
use Rattle.proof_claims.proofs.laws.followed_is_held.Goals as goal

pub returns : goal.returns
returns c limits steps k ok followed = followed_held limits ok steps k followed
