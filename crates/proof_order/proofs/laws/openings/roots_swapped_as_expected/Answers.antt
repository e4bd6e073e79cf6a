use Rattle.proof_order.proofs.Openings.OfLists.{roots_swapped_as_expected as law}
use Rattle.proof_order.proofs.laws.openings.roots_swapped_as_expected.Goals as goal

pub returns : goal.returns
returns c = law
