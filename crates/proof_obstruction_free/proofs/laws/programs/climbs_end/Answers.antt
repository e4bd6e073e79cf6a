use Rattle.proof_obstruction_free.proofs.Programs.{climb_ends}
use Rattle.proof_obstruction_free.proofs.laws.programs.climbs_end.Goals as goal

pub returns : goal.returns
returns c = climb_ends
