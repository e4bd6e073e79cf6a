use Rattle.proof_order.proofs.Openings.OfLists.{closings_differ as law}
use Rattle.proof_order.proofs.laws.openings.closings_differ.Goals as goal

pub returns : goal.returns
returns c = law
