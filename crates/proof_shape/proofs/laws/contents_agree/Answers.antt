use Rattle.proof_shape.proofs.Shaped.Agreeing.{contents_agree as agree}
use Rattle.proof_shape.proofs.laws.contents_agree.Goals as goal

pub returns : goal.returns
returns c = agree
