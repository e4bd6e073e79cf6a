use Rattle.gate.proofs.Summing.{seats_make_the_log as law}
use Rattle.sharded_gate.proofs.laws.seats_make_the_log.Goals as goal

pub returns : goal.returns
returns g c = law g.O.Sharded.answers g.S.HoldsShardedSeat.seat
