use Rattle.proof_shape.proofs.Shaped.OfLists.{branches_exact as law}
use Rattle.proof_shape.proofs.laws.branches_are_exact.Goals as goal

pub returns : goal.returns
returns c = law
