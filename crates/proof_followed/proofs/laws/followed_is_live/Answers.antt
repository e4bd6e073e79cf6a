use Rattle.proof_followed.specs.Beneath.machine_model.specs.Machine.{run}
use Rattle.proof_followed.specs.Beneath.proof_memory.proofs.Safety.AtEachTime.{safe_along}
use Rattle.proof_followed.proofs.Live.{followed_known}
use Rattle.proof_followed.proofs.laws.followed_is_live.Goals as goal

pub returns : goal.returns
returns c limits steps r ok followed = followed_known (run limits steps) (safe_along limits ok steps) (λ id. Unit {0}) followed
