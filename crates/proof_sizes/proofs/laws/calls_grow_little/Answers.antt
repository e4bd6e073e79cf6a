use Rattle.proof_sizes.proofs.OfCalls.{calls_grow_little}
use Rattle.proof_sizes.proofs.laws.calls_grow_little.Goals as goal

pub returns : goal.returns
returns c = calls_grow_little
