use Rattle.shared_map.proofs.MapOfShards.{shards_make_the_map}
use Rattle.shared_map.proofs.laws.shards_make_the_map.Goals as goal

pub returns : goal.returns
returns c = shards_make_the_map
