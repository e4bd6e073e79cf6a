use Rattle.std.proofs.Common.{slice_set, ap, ◌∙◌}
use Rattle.shared_map.proofs.Places.{set_found}
use Rattle.shared_map.proofs.asking.first_of.Goals as goal

pub returns-clause-same : goal.returns-clause-same
returns-clause-same g c =
    let (was, now, at, did, set) = c.visit.ensures.visited in
    set ∙ ap (slice_set (g.S.Shards.items c.args.shards.now) 0) did.0 ∙ set_found (g.S.Shards.items c.args.shards.now) 0 was at
