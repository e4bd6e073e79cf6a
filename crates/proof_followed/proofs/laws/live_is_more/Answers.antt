use Rattle.proof_followed.proofs.Live.{live_unfollowed}
use Rattle.proof_followed.proofs.laws.live_is_more.Goals as goal

pub returns : goal.returns
returns c law = live_unfollowed law
