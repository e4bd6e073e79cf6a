use Rattle.proof_obstruction_free.proofs.Swap.Soon.{root_ends}
use Rattle.proof_obstruction_free.proofs.laws.programs.roots_end.Goals as goal

pub returns : goal.returns
returns c = root_ends
