use Rattle.map_worlds.proofs.First.{first_is_shown as its}
use Rattle.map_worlds.proofs.laws.first_is_shown.Goals as goal

pub returns : goal.returns
returns c = its
