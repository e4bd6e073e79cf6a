use Rattle.proof_contents.proofs.Nodes.Builders.{pairs_put}
use Rattle.proof_contents.proofs.laws.pairs_put.Goals as goal

pub returns : goal.returns
returns c = pairs_put
