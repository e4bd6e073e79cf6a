use Rattle.proof_order.proofs.Openings.OfLists.{new_roots_follow as law}
use Rattle.proof_order.proofs.laws.openings.new_roots_follow.Goals as goal

pub returns : goal.returns
returns c = law
