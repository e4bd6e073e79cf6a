use Rattle.concurrent_map.proofs.Listings.{scans_list_one_moment}
use Rattle.concurrent_map.proofs.laws.scans_list_one_moment.Goals as goal

pub returns : goal.returns
returns c = scans_list_one_moment
