use Rattle.map_worlds.proofs.Counted.{handles_at_rest as its}
use Rattle.map_worlds.proofs.laws.handles_at_rest.Goals as goal

pub returns : goal.returns
returns c = its
