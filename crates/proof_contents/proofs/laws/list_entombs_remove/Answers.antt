use Rattle.proof_contents.proofs.Nodes.Builders.{list_entombs}
use Rattle.proof_contents.proofs.laws.list_entombs_remove.Goals as goal

pub returns : goal.returns
returns c = list_entombs
