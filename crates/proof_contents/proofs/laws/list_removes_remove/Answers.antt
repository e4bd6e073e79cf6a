use Rattle.proof_contents.proofs.Nodes.Builders.{list_removes}
use Rattle.proof_contents.proofs.laws.list_removes_remove.Goals as goal

pub returns : goal.returns
returns c = list_removes
