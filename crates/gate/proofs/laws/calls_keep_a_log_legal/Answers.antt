use Rattle.gate.proofs.Placing.{calls_keep_a_log_legal as law}
use Rattle.gate.proofs.laws.calls_keep_a_log_legal.Goals as goal

pub returns : goal.returns
returns g c = law g.O.Object.answers
