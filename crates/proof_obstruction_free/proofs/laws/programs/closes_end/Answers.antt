use Rattle.proof_obstruction_free.proofs.Ends.Closes.{closes_end as all_closes_end}
use Rattle.proof_obstruction_free.proofs.laws.programs.closes_end.Goals as goal

pub returns : goal.returns
returns c = all_closes_end
