use Rattle.proof_obstruction_free.proofs.Programs.{complete_ends, complete_goes_to_its_end}
use Rattle.proof_obstruction_free.proofs.laws.programs.completes_end.Goals as goal

pub returns-clause-first : goal.returns-clause-first
returns-clause-first c = complete_ends

pub returns-clause-under_way : goal.returns-clause-under_way
returns-clause-under_way c = complete_goes_to_its_end
