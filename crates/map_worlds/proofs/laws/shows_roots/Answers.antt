use Rattle.map_worlds.proofs.Shown.{shows_roots as its}
use Rattle.map_worlds.proofs.laws.shows_roots.Goals as goal

pub returns : goal.returns
returns c = its
