use Rattle.proof_reuse.proofs.InLists.{swapped_in_garbage}
use Rattle.proof_reuse.proofs.laws.swapped_in_is_garbage.Goals as goal

pub returns : goal.returns
returns c limits steps i m ok own replaced used = swapped_in_garbage limits ok steps i m own replaced used
