use Rattle.concurrent_map.proofs.Counts.{no_count_is_lost}
use Rattle.concurrent_map.proofs.laws.no_count_is_lost.Goals as goal

pub returns : goal.returns
returns c = no_count_is_lost
