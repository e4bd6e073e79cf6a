use Rattle.proof_obstruction_free.proofs.Read.Bounds.{alone_read_ends, alone_read_goes_to_its_end}
use Rattle.proof_obstruction_free.proofs.laws.programs.reads_end.Goals as goal

pub returns-clause-first : goal.returns-clause-first
returns-clause-first c = alone_read_ends

pub returns-clause-under_way : goal.returns-clause-under_way
returns-clause-under_way c = alone_read_goes_to_its_end
