use Rattle.map_worlds.proofs.Shown.{states_show as its}
use Rattle.map_worlds.proofs.laws.states_show.Goals as goal

pub returns : goal.returns
returns c = its
