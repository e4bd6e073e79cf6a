use Rattle.proof_commits.proofs.Course.AlongLists.{checked_is_decided as law}
use Rattle.proof_commits.proofs.laws.checked_is_decided.Goals as goal

pub returns : goal.returns
returns c = law
