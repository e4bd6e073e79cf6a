use Rattle.std.specs.Prelude.{not}
use Rattle.std.proofs.Common.{false, ap}
use Rattle.shared_map.specs.Vocabulary.{Snapshot}
use Rattle.shared_map.proofs.Counted.{measured}
use Rattle.shared_map.proofs.answering.have_room.Goals as goal

pub returns-clause-room : goal.returns-clause-room
returns-clause-room g c =
    let (same, worn, tight) = measured (record { call = Snapshot 0; restores = false; is_worn_out = false; is_tight = false }) c.visit_each.new.visitor (g.S.Shards.items c.args.shards.now)
    (g.S.Shards.items c.visit_each.new.shards) c.visit_each.ensures.visited in ap not tight

pub returns-clause-same : goal.returns-clause-same
returns-clause-same g c =
    (measured (record { call = Snapshot 0; restores = false; is_worn_out = false; is_tight = false }) c.visit_each.new.visitor (g.S.Shards.items c.args.shards.now)
    (g.S.Shards.items c.visit_each.new.shards) c.visit_each.ensures.visited).0
