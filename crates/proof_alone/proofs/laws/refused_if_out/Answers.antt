use Rattle.proof_alone.proofs.Wanting.{refused_if_out}
use Rattle.proof_alone.proofs.laws.refused_if_out.Goals as goal

pub returns : goal.returns
returns c = refused_if_out
