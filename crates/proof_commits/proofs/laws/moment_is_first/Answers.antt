use Rattle.proof_commits.proofs.Course.AlongLists.{moment_is_first as law}
use Rattle.proof_commits.proofs.laws.moment_is_first.Goals as goal

pub returns : goal.returns
returns c = law
