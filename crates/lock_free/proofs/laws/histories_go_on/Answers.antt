use Rattle.lock_free.proofs.HistoriesOn.{histories_go_on}
use Rattle.lock_free.proofs.laws.histories_go_on.Goals as goal

pub returns : goal.returns
returns c = histories_go_on
