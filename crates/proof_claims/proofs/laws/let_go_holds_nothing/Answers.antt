use Rattle.proof_claims.proofs.HoldsNothing.{holds_nothing}
use Rattle.proof_claims.proofs.laws.let_go_holds_nothing.Goals as goal

pub returns : goal.returns
returns c limits steps j k ok let_go = holds_nothing limits ok steps j k let_go
