use Rattle.epochs.proofs.Forgetting.{counts_alone}
use Rattle.epochs.proofs.laws.counts_alone.Goals as goal

pub returns : goal.returns
returns c = counts_alone
