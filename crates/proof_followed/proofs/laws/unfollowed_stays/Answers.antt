use Rattle.proof_followed.proofs.Stays.{stays_unfollowed}
use Rattle.proof_followed.proofs.laws.unfollowed_stays.Goals as goal

pub returns : goal.returns
returns c limits steps s r ok used none followed = none (stays_unfollowed limits ok steps r used s followed)
