use Rattle.proof_reuse.proofs.Own.{failed_garbage}
use Rattle.proof_reuse.proofs.laws.failed_own_is_garbage.Goals as goal

pub returns : goal.returns
returns c limits steps i m ok own f used = failed_garbage limits steps ok i m own f used
