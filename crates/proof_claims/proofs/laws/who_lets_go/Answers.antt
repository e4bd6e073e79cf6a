use Rattle.proof_claims.proofs.WhoLetsGo.{who_lets_go}
use Rattle.proof_claims.proofs.laws.who_lets_go.Goals as goal

pub returns : goal.returns
returns c limits steps s j ok let_go = who_lets_go limits ok steps s j let_go.lets
