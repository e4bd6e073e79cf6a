use Rattle.snapshot.proofs.Told.{tells_copy}
use Rattle.snapshot.proofs.laws.tells_copy.Goals as goal

pub returns : goal.returns
returns c = tells_copy
