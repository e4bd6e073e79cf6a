use Rattle.proof_sizes.proofs.OfCalls.{copies_are_no_larger}
use Rattle.proof_sizes.proofs.laws.copies_are_no_larger.Goals as goal

pub returns : goal.returns
returns c = copies_are_no_larger
