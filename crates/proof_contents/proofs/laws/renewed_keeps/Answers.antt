use Rattle.proof_contents.proofs.Nodes.Builders.{renewed_keeps}
use Rattle.proof_contents.proofs.laws.renewed_keeps.Goals as goal

pub returns : goal.returns
returns c = renewed_keeps
