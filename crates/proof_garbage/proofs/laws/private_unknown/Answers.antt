use Rattle.std.proofs.Common.{zero, suc}
use Rattle.std.proofs.lemmas.Option.{none-some}
use Rattle.proof_garbage.proofs.Private.{private_along}
use Rattle.proof_garbage.proofs.laws.private_unknown.Goals as goal

pub returns : goal.returns
returns c limits steps zero operation r ok e p known = none-some operation e
returns c limits steps (suc k) operation r ok e p known = private_along limits ok steps k operation e r p known
