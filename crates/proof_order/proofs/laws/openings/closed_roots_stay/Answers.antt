use Rattle.proof_order.proofs.Openings.OfLists.{closed_roots_stay as law}
use Rattle.proof_order.proofs.laws.openings.closed_roots_stay.Goals as goal

pub returns : goal.returns
returns c = law
