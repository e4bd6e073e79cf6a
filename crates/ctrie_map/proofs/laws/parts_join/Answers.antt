use Rattle.ctrie_map.proofs.Listings.{parts_join}
use Rattle.ctrie_map.proofs.laws.parts_join.Goals as goal

pub returns : goal.returns
returns c = parts_join
