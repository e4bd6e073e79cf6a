use Rattle.proof_commits.proofs.Course.AlongLists.{pending_has_owner as law}
use Rattle.proof_commits.proofs.laws.pending_has_owner.Goals as goal

pub returns : goal.returns
returns c = law
