use Rattle.gate.proofs.Placing.{calls_keep_a_log_legal as law}
use Rattle.sharded_gate.proofs.laws.calls_keep_a_log_legal.Goals as goal

pub returns : goal.returns
returns g c = law g.O.Sharded.answers
