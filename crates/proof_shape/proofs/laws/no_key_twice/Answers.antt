use Rattle.proof_shape.proofs.Shaped.OfLists.{no_key_twice as law}
use Rattle.proof_shape.proofs.laws.no_key_twice.Goals as goal

pub returns : goal.returns
returns c = law
