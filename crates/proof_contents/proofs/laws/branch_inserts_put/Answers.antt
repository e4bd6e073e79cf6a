use Rattle.proof_contents.proofs.Nodes.Builders.{branch_inserts}
use Rattle.proof_contents.proofs.laws.branch_inserts_put.Goals as goal

pub returns : goal.returns
returns c = branch_inserts
