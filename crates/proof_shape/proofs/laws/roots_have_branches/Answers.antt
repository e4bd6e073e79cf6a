use Rattle.proof_shape.proofs.Shaped.Roots.{roots_have_branches as law}
use Rattle.proof_shape.proofs.laws.roots_have_branches.Goals as goal

pub returns : goal.returns
returns c = law
