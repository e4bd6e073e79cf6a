use Rattle.proof_runs.proofs.Record.Newest.{committed_are_newest as its}
use Rattle.proof_runs.proofs.laws.committed_are_newest.Goals as goal

pub returns : goal.returns
returns c = its
