use Rattle.gate.proofs.Placing.{logs_go_on as law}
use Rattle.gate.proofs.laws.logs_go_on.Goals as goal

pub returns : goal.returns
returns g c = law g.O.Object.answers
