use Rattle.proof_memory.proofs.Holding.Lives.{lines_live as its}
use Rattle.proof_memory.proofs.laws.lines_live.Goals as goal

pub returns : goal.returns
returns c = its
