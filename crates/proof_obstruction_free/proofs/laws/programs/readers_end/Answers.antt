use Rattle.proof_obstruction_free.proofs.Ends.Bounds.{readers_end as all_readers_end}
use Rattle.proof_obstruction_free.proofs.laws.programs.readers_end.Goals as goal

pub returns : goal.returns
returns c = all_readers_end
