use Rattle.proof_contents.proofs.Nodes.Builders.{branch_entombs}
use Rattle.proof_contents.proofs.laws.branch_entombs_remove.Goals as goal

pub returns : goal.returns
returns c = branch_entombs
