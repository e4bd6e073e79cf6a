use Rattle.proof_owned.proofs.Marked.{marked_has_stayed as law}
use Rattle.proof_owned.proofs.laws.marked_has_stayed.Goals as goal

pub returns : goal.returns
returns c = law
