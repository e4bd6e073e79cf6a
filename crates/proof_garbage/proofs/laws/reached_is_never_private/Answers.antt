use Rattle.std.proofs.Common.{zero, suc}
use Rattle.std.proofs.lemmas.Option.{none-some}
use Rattle.proof_garbage.proofs.Public.{public_along}
use Rattle.proof_garbage.proofs.laws.reached_is_never_private.Goals as goal

pub returns : goal.returns
returns c limits before since zero operation r ok reached e p = none-some operation e
returns c limits before since (suc k) operation r ok reached e p = (public_along limits ok before since r reached).apart k operation e p
