use Rattle.proof_garbage.specs.Beneath.machine_model.specs.Machine.{run}
use Rattle.proof_garbage.specs.Beneath.proof_memory.proofs.Safety.AtEachTime.{safe_along}
use Rattle.proof_garbage.proofs.Known.{known_used}
use Rattle.proof_garbage.proofs.laws.live_in_use.Goals as goal

pub returns : goal.returns
returns c limits steps r ok k = known_used (run limits steps) (safe_along limits ok steps) (λ id. Unit {0}) k
