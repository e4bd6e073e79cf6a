use Rattle.std.proofs.Common.{◌+◌, refl, ◌∙◌}
use Rattle.shared_map.proofs.Visiting.{visited_more}
use Rattle.shared_map.proofs.visits.visit_each.Goals as goal

pub loop-shard-preserved : goal.loop-shard-preserved
loop-shard-preserved g c =
    let inv = c.loop-shard.invariant in (
      visited_more g.V.Visit.does c.loop-shard.shard (c.loop-shard.shard + 1) c.args.visitor.now _ c.visit.new.visitor (g.S.Shards.items c.args.shards.now) _
          (g.S.Shards.items c.visit.new.self) refl inv.0 c.visit.ensures.visited,
      c.visit.ensures.rest ∙ inv.1,
    )
