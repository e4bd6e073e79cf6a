use Rattle.shared_map.proofs.Moments.{scans_list_a_shard}
use Rattle.shared_map.proofs.laws.scans_list_a_shard.Goals as goal

pub returns : goal.returns
returns c = scans_list_a_shard
