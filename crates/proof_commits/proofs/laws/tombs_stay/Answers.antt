use Rattle.proof_commits.proofs.Course.AlongLists.{tombs_stay as law}
use Rattle.proof_commits.proofs.laws.tombs_stay.Goals as goal

pub returns : goal.returns
returns c = law
