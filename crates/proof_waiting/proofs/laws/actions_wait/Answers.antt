use Rattle.proof_waiting.proofs.Actions.{action_waits}
use Rattle.proof_waiting.proofs.laws.actions_wait.Goals as goal

pub returns : goal.returns
returns c = action_waits
