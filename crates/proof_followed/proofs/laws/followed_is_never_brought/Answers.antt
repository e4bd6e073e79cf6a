use Rattle.proof_followed.proofs.NeverBrought.{never_brought}
use Rattle.proof_followed.proofs.laws.followed_is_never_brought.Goals as goal

pub returns : goal.returns
returns c limits before since r ok followed = never_brought limits ok before since r followed
