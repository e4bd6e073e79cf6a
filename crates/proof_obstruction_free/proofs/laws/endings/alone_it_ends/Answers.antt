use Rattle.proof_obstruction_free.proofs.Inherited.EndsAll.{alone_it_ends}
use Rattle.proof_obstruction_free.proofs.laws.endings.alone_it_ends.Goals as goal

pub returns : goal.returns
returns c = alone_it_ends
