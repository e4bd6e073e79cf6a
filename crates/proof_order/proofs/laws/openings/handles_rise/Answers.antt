use Rattle.proof_order.proofs.Openings.OfLists.{handles_rise as law}
use Rattle.proof_order.proofs.laws.openings.handles_rise.Goals as goal

pub returns : goal.returns
returns c = law
