use Rattle.ctrie_map.proofs.Listings.{all_are_listed}
use Rattle.ctrie_map.proofs.laws.all_are_listed.Goals as goal

pub returns : goal.returns
returns c = all_are_listed
