use Rattle.proof_followed.specs.Beneath.machine_model.specs.Machine.{run}
use Rattle.proof_followed.specs.Beneath.proof_memory.proofs.Safety.AtEachTime.{safe_along}
use Rattle.proof_followed.proofs.InUse.{followed_used}
use Rattle.proof_followed.proofs.laws.followed_in_use.Goals as goal

pub returns : goal.returns
returns c limits steps r ok followed = followed_used (run limits steps) (safe_along limits ok steps) (λ id. Unit {0}) followed
