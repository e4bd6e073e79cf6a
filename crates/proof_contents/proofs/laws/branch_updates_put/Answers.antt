use Rattle.proof_contents.proofs.Nodes.Builders.{branch_updates}
use Rattle.proof_contents.proofs.laws.branch_updates_put.Goals as goal

pub returns : goal.returns
returns c = branch_updates
