use Rattle.gate.proofs.Placing.{a_call_is_one_entry as law}
use Rattle.sharded_gate.proofs.laws.a_call_is_one_entry.Goals as goal

pub returns : goal.returns
returns g c = law g.O.Sharded.answers
