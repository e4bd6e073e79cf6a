use Rattle.proof_sizes.proofs.OfCalls.{sweeps_keep_nodes}
use Rattle.proof_sizes.proofs.laws.sweeps_keep_nodes.Goals as goal

pub returns : goal.returns
returns c = sweeps_keep_nodes
