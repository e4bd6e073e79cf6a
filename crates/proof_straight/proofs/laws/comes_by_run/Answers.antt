use Rattle.proof_straight.proofs.Runs.ByRuns.{comes_by_run}
use Rattle.proof_straight.proofs.laws.comes_by_run.Goals as goal

pub returns : goal.returns
returns c = comes_by_run
