use Rattle.shared_map.proofs.Moments.{parts_list_the_map}
use Rattle.shared_map.proofs.laws.parts_list_the_map.Goals as goal

pub returns : goal.returns
returns c = parts_list_the_map
