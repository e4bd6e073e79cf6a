use Rattle.proof_owned.proofs.DroppedOfLists.{dropped_is_unlinked as law}
use Rattle.proof_owned.proofs.laws.dropped_is_unlinked.Goals as goal

pub returns : goal.returns
returns c = law
