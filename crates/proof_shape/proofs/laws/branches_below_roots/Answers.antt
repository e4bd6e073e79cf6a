use Rattle.proof_shape.proofs.Shaped.OfLists.{branches_full as law}
use Rattle.proof_shape.proofs.laws.branches_below_roots.Goals as goal

pub returns : goal.returns
returns c = law
