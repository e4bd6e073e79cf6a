use Rattle.proof_shape.proofs.Sites.Mains.{paths_are_short as law}
use Rattle.proof_shape.proofs.laws.paths_are_short.Goals as goal

pub returns : goal.returns
returns c = law
