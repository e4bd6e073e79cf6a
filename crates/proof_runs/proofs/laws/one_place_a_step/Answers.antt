use Rattle.proof_runs.proofs.Record.Adding.{one_place}
use Rattle.proof_runs.proofs.laws.one_place_a_step.Goals as goal

pub returns : goal.returns
returns c = one_place
