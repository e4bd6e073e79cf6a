use Rattle.proof_obstruction_free.proofs.Swap.Soon.{swap_ends, swap_goes_to_its_end}
use Rattle.proof_obstruction_free.proofs.laws.programs.swaps_end.Goals as goal

pub returns-clause-first : goal.returns-clause-first
returns-clause-first c = swap_ends

pub returns-clause-under_way : goal.returns-clause-under_way
returns-clause-under_way c = swap_goes_to_its_end
