use Rattle.proof_memory.specs.Vocabulary.{run}
use Rattle.proof_memory.proofs.Safety.AtEachTime.{safe_along}
use Rattle.proof_memory.proofs.Levels.Runs.{levels_of, has_levels}
use Rattle.proof_memory.proofs.Limbo.Zeros.{has_zeros}
use Rattle.proof_memory.proofs.Limbo.Ranks.{reached_in_use}
use Rattle.proof_memory.proofs.Limbo.Measure.{all_reached}
use Rattle.proof_memory.proofs.laws.reclaimed.Goals as goal

pub returns : goal.returns
returns c limits steps ok rest empty r =
    let I = safe_along limits ok steps in
    (all_reached (run limits steps) I (levels_of limits steps) (has_levels limits ok steps) (has_zeros limits ok steps) empty rest r, reached_in_use (run limits steps) I r)
