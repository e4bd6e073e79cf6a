use Rattle.epochs.proofs.Running.{running_keeps}
use Rattle.epochs.proofs.laws.running_keeps.Goals as goal

pub returns : goal.returns
returns c = running_keeps
