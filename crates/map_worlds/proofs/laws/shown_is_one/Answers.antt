use Rattle.map_worlds.proofs.Shown.{shown_is_one as its}
use Rattle.map_worlds.proofs.laws.shown_is_one.Goals as goal

pub returns : goal.returns
returns c = its
