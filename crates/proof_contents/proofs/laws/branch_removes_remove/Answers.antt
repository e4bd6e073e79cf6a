use Rattle.proof_contents.proofs.Nodes.Builders.{branch_removes}
use Rattle.proof_contents.proofs.laws.branch_removes_remove.Goals as goal

pub returns : goal.returns
returns c = branch_removes
