use Rattle.proof_contents.proofs.Nodes.Builders.{list_inserts}
use Rattle.proof_contents.proofs.laws.list_inserts_put.Goals as goal

pub returns : goal.returns
returns c = list_inserts
