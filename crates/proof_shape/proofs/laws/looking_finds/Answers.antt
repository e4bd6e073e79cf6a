use Rattle.proof_shape.proofs.Shaped.Looking.{looking_finds as finds}
use Rattle.proof_shape.proofs.laws.looking_finds.Goals as goal

pub returns : goal.returns
returns c = finds
