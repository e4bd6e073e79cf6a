use Rattle.proof_commits.proofs.Course.AlongLists.{decided_for_good as law}
use Rattle.proof_commits.proofs.laws.decided_for_good.Goals as goal

pub returns : goal.returns
returns c = law
