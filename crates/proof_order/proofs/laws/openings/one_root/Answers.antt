use Rattle.proof_order.proofs.Openings.OfLists.{one_root as law}
use Rattle.proof_order.proofs.laws.openings.one_root.Goals as goal

pub returns : goal.returns
returns c = law
