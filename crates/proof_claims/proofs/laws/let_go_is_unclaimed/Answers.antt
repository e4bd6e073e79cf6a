use Rattle.proof_claims.proofs.Unclaimed.{unclaimed}
use Rattle.proof_claims.proofs.laws.let_go_is_unclaimed.Goals as goal

pub returns : goal.returns
returns c limits steps j by ok keys nobody let_go has = unclaimed limits ok steps keys j nobody let_go by has
