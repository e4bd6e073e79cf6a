use Rattle.proof_contents.proofs.Nodes.Builders.{list_updates}
use Rattle.proof_contents.proofs.laws.list_updates_put.Goals as goal

pub returns : goal.returns
returns c = list_updates
