use Rattle.std.proofs.Common.{rules}
use Rattle.gate.specs.Finishing.{IsGathered}
use Rattle.shared_map.specs.Answering.{MapAnswers}
use Rattle.shared_map.specs.Shards.{AreShards}
use Rattle.shared_map.proofs.Replays.{in_one_order}
use Rattle.shared_map.proofs.maps.SharedMap.finish.Goals as goal

pub returns-in-Ok-clause-order : goal.returns-in-Ok-clause-order
returns-in-Ok-clause-order g c =
    let first : AreShards c.args.self.hash c.args.self.room.first = search rules in
    let all : IsGathered MapAnswers g.S.HoldsShardedSeat.seat c.args.self.room c.args.seats.items c.in-Ok.maps.items = search rules in
    in_one_order g.S.HoldsShardedSeat.seat c.args.self.hash c.args.self.room c.args.seats.items c.in-Ok.maps.items first all
