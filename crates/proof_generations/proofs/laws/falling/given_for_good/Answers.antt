use Rattle.proof_commits.proofs.Course.AlongLists.{law_given_for_good as law}
use Rattle.proof_generations.proofs.Falling.KnownRoots.{roots_of_runs}
use Rattle.proof_generations.proofs.laws.falling.given_for_good.Goals as goal

pub returns : goal.returns
returns c = law roots_of_runs
