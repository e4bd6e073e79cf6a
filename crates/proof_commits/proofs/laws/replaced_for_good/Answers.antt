use Rattle.proof_commits.proofs.Course.AlongLists.{law_replaced_for_good as law}
use Rattle.proof_commits.proofs.laws.replaced_for_good.Goals as goal

pub returns : goal.returns
returns c = law
