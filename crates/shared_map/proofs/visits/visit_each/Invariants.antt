use Rattle.std.proofs.Common.{◌≡◌}
use Rattle.shared_map.proofs.Visiting.{HaveVisited}
use Rattle.shared_map.proofs.visits.visit_each.Given as goal

abbrev pub invariant-loop-shard : goal.invariant-loop-shard
invariant-loop-shard g l =
    HaveVisited g.V.Visit.does l.shard l.initial.visitor (g.S.Shards.items l.initial.shards) l.visitor (g.S.Shards.items l.shards)
    × (g.S.Shards.rest l.shards ≡ g.S.Shards.rest l.initial.shards)
