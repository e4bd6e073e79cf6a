use Rattle.shared_map.proofs.Freezes.{freezes_copy_the_map}
use Rattle.shared_map.proofs.laws.freezes_copy_the_map.Goals as goal

pub returns : goal.returns
returns c = freezes_copy_the_map
