use Rattle.shared_map.proofs.Moments.{scans_join}
use Rattle.shared_map.proofs.laws.scans_join.Goals as goal

pub returns : goal.returns
returns c = scans_join
