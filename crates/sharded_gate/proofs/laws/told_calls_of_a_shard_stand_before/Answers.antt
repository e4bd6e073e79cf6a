use Rattle.sharded_gate.proofs.Placing.{told_calls_of_a_shard_stand_before as law}
use Rattle.sharded_gate.proofs.laws.told_calls_of_a_shard_stand_before.Goals as goal

pub returns : goal.returns
returns g c = law g.O.Sharded.answers g.O.Sharded.about
