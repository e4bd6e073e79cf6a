use Rattle.gate.proofs.Placing.{told_calls_stand_before as law}
use Rattle.gate.proofs.laws.told_calls_stand_before.Goals as goal

pub returns : goal.returns
returns g c = law g.O.Object.answers
