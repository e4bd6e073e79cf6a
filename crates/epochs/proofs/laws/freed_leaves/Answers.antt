use Rattle.epochs.proofs.Forgetting.{freed_leaves}
use Rattle.epochs.proofs.laws.freed_leaves.Goals as goal

pub returns : goal.returns
returns c = freed_leaves
