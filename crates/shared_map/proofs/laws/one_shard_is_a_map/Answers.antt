use Rattle.shared_map.proofs.OneMap.{one_shard_is_a_map}
use Rattle.shared_map.proofs.laws.one_shard_is_a_map.Goals as goal

pub returns : goal.returns
returns c = one_shard_is_a_map
