use Rattle.shared_map.proofs.MapOfShards.{new_shards_are_empty}
use Rattle.shared_map.proofs.laws.new_shards_are_empty.Goals as goal

pub returns : goal.returns
returns c = new_shards_are_empty
