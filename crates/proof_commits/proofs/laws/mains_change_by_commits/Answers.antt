use Rattle.proof_commits.proofs.Course.AlongLists.{mains_change_by_commits as law}
use Rattle.proof_commits.proofs.laws.mains_change_by_commits.Goals as goal

pub returns : goal.returns
returns c = law
