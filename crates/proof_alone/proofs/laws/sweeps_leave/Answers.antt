use Rattle.proof_alone.proofs.Sweeping.{sweeps_leave}
use Rattle.proof_alone.proofs.laws.sweeps_leave.Goals as goal

pub returns : goal.returns
returns c = sweeps_leave
