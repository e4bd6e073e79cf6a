use Rattle.proof_shape.proofs.Shaped.OfLists.{lists_crowds as law}
use Rattle.proof_shape.proofs.laws.lists_are_crowds.Goals as goal

pub returns : goal.returns
returns c = law
