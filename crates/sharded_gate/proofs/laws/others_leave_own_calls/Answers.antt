use Rattle.gate.proofs.Placing.{others_leave_own_calls as law}
use Rattle.sharded_gate.proofs.laws.others_leave_own_calls.Goals as goal

pub returns : goal.returns
returns g c = law g.O.Sharded.answers
