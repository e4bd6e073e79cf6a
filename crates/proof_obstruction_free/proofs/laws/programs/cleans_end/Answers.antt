use Rattle.proof_obstruction_free.proofs.Programs.{clean_ends}
use Rattle.proof_obstruction_free.proofs.laws.programs.cleans_end.Goals as goal

pub returns : goal.returns
returns c = clean_ends
