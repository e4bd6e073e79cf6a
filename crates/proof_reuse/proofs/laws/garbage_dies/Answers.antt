use Rattle.proof_followed.proofs.Grace.{dies}
use Rattle.proof_reuse.proofs.SwapIns.{none_swapped_back}
use Rattle.proof_reuse.proofs.laws.garbage_dies.Goals as goal

pub returns : goal.returns
returns c limits before since r ok g = (dies limits ok before r g.in_use g.unfollowed g.unbrought since (none_swapped_back limits ok before r g.in_use g.private_to_none since)).0
