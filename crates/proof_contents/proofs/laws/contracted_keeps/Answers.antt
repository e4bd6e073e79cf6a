use Rattle.proof_contents.proofs.Nodes.Builders.{contracted_keeps}
use Rattle.proof_contents.proofs.laws.contracted_keeps.Goals as goal

pub returns : goal.returns
returns c = contracted_keeps
