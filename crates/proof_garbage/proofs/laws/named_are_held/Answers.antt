use Rattle.std.proofs.Common.{◌≡◌, refl}
use Rattle.proof_garbage.specs.Beneath.machine_model.specs.Machine.{run}
use Rattle.proof_garbage.specs.Beneath.proof_memory.proofs.Safety.AtEachTime.{safe_along}
use Rattle.proof_garbage.proofs.Known.{named_known}
use Rattle.proof_garbage.proofs.laws.named_are_held.Goals as goal

pub returns : goal.returns
returns c limits steps actor operation r ok e n = named_known (run limits steps) (safe_along limits ok steps) (λ id. id ≡ operation.id) actor operation e refl r n
