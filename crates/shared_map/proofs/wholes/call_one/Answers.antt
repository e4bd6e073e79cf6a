use Rattle.shared_map.proofs.Places.{only_set}
use Rattle.shared_map.proofs.wholes.call_one.Goals as goal

pub returns-clause-called : goal.returns-clause-called
returns-clause-called g c =
    let (was, now, at, did, set) = c.visit.ensures.visited in
    let (one, next) = only_set (g.S.Shards.items c.args.shards.now) (g.S.Shards.items c.visit.new.self) was now c.requires at set in
    (was, now, one, next, did.0, did.1, did.2)
