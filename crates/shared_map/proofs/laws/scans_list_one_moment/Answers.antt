use Rattle.shared_map.proofs.Moments.{scans_list_one_moment}
use Rattle.shared_map.proofs.laws.scans_list_one_moment.Goals as goal

pub returns : goal.returns
returns c = scans_list_one_moment
