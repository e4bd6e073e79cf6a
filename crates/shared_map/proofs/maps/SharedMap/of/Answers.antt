use Rattle.std.proofs.Common.{sym, subst}
use Rattle.shared_map.specs.Shards.{AreShards}
use Rattle.shared_map.proofs.OneShard.{one_is}
use Rattle.shared_map.proofs.maps.SharedMap.of.Goals as goal

pub of_shards-requires : goal.of_shards-requires
of_shards-requires c =
    subst (λ h. AreShards h c.in_ok-shards.shards.items) (sym c.hash-hash.ensures)
    (subst (AreShards c.args.map.core.limits.hash) (sym c.in_ok-shards.ensures.alone) (one_is c.args.map))
