use Rattle.proof_sizes.proofs.OfCalls.{empty_has_two}
use Rattle.proof_sizes.proofs.laws.empty_has_two.Goals as goal

pub returns : goal.returns
returns c = empty_has_two
