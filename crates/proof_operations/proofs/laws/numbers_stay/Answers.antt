use Rattle.proof_operations.proofs.Numbers.{numbers_stay as its}
use Rattle.proof_operations.proofs.laws.numbers_stay.Goals as goal

pub returns : goal.returns
returns c = its
