use Rattle.proof_commits.proofs.Course.AlongLists.{late_stood_before as law}
use Rattle.proof_generations.proofs.Falling.KnownRoots.{roots_of_runs}
use Rattle.proof_generations.proofs.laws.falling.late_stood_before.Goals as goal

pub returns : goal.returns
returns c = law roots_of_runs
