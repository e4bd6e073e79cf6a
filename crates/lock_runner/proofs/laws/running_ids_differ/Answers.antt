use Rattle.lock_runner.proofs.ActorHistory.Steps.{running_ids_differ}
use Rattle.lock_runner.proofs.laws.running_ids_differ.Goals as goal

pub returns : goal.returns
returns c = running_ids_differ
