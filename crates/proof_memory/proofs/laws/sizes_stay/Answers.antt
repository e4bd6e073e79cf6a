use Rattle.proof_memory.proofs.Holding.Sizes.{sizes_stay as its}
use Rattle.proof_memory.proofs.laws.sizes_stay.Goals as goal

pub returns : goal.returns
returns c = its
