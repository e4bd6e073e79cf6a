use Rattle.std.proofs.Common.{◌≡◌, refl}
use Rattle.proof_followed.specs.Beneath.machine_model.specs.Machine.{run}
use Rattle.proof_followed.specs.Beneath.proof_memory.proofs.Safety.AtEachTime.{safe_along}
use Rattle.proof_followed.proofs.InUse.{named_followed}
use Rattle.proof_followed.proofs.laws.named_are_followed.Goals as goal

pub returns : goal.returns
returns c limits steps actor operation r ok e n = named_followed (run limits steps) (safe_along limits ok steps) (λ id. id ≡ operation.id) actor operation e refl r n
