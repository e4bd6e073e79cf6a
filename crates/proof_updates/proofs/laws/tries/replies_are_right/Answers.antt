use Rattle.proof_updates.proofs.Tries.OfLists.{replies_are_right as law}
use Rattle.proof_updates.proofs.laws.tries.replies_are_right.Goals as goal

pub returns : goal.returns
returns c = law
