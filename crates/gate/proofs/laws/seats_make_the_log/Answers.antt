use Rattle.gate.proofs.Summing.{seats_make_the_log as law}
use Rattle.gate.proofs.laws.seats_make_the_log.Goals as goal

pub returns : goal.returns
returns g c = law g.O.Object.answers g.S.HoldsSeat.seat
