use Rattle.std.proofs.Common.{zero, suc}
use Rattle.std.proofs.lemmas.Option.{none-some}
use Rattle.proof_followed.proofs.NeverBrought.{offered_unknown}
use Rattle.proof_followed.proofs.laws.offered_is_unknown.Goals as goal

pub returns : goal.returns
returns c limits steps zero operation r ok e unmarked b followed = none-some operation e
returns c limits steps (suc k) operation r ok e unmarked b followed = offered_unknown limits ok steps k operation e unmarked r b followed
