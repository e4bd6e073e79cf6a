use Rattle.snapshot.proofs.Told.{tells_walk}
use Rattle.snapshot.proofs.laws.tells_walk.Goals as goal

pub returns : goal.returns
returns c = tells_walk
