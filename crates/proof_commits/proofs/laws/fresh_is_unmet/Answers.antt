use Rattle.proof_commits.proofs.Course.Unmet.{fresh_is_unmet}
use Rattle.proof_commits.proofs.laws.fresh_is_unmet.Goals as goal

pub returns : goal.returns
returns c = fresh_is_unmet
