use Rattle.shared_map.proofs.Moments.{parts_list_one_moment}
use Rattle.shared_map.proofs.laws.parts_list_one_moment.Goals as goal

pub returns : goal.returns
returns c = parts_list_one_moment
