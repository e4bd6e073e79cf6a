use Rattle.shared_map.proofs.Together.{shards_list_the_map}
use Rattle.shared_map.proofs.laws.shards_list_the_map.Goals as goal

pub returns : goal.returns
returns c = shards_list_the_map
