use Rattle.proof_memory.specs.Vocabulary.{run}
use Rattle.proof_memory.proofs.Safety.AtEachTime.{safe_along}
use Rattle.proof_memory.proofs.Limbo.Exact.{in_limbo_zero}
use Rattle.proof_memory.proofs.Limbo.Zeros.{has_zeros}
use Rattle.proof_memory.proofs.Limbo.Epochs.{limbo_lies}
use Rattle.proof_memory.proofs.laws.limbo_is_right.Goals as goal

pub returns-clause-exact : goal.returns-clause-exact
returns-clause-exact c limits steps r ok = (has_zeros limits ok steps r, in_limbo_zero (run limits steps) (safe_along limits ok steps) r)

pub returns-clause-recent : goal.returns-clause-recent
returns-clause-recent c limits steps ok = limbo_lies limits steps
