use Rattle.proof_waiting.proofs.Operations.{operations_wait}
use Rattle.proof_waiting.proofs.laws.operations_wait.Goals as goal

pub returns : goal.returns
returns c = operations_wait
