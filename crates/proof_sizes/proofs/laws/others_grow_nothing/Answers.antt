use Rattle.proof_sizes.proofs.OfCalls.{others_grow_nothing}
use Rattle.proof_sizes.proofs.laws.others_grow_nothing.Goals as goal

pub returns : goal.returns
returns c = others_grow_nothing
