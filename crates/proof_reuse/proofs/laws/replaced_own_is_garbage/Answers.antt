use Rattle.proof_reuse.proofs.Own.{replaced_garbage}
use Rattle.proof_reuse.proofs.laws.replaced_own_is_garbage.Goals as goal

pub returns : goal.returns
returns c limits steps i m ok own r used = replaced_garbage limits steps ok i m own r used
