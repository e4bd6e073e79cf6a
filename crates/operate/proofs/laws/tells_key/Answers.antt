use Rattle.operate.proofs.Wherever.{tells, untold}
use Rattle.operate.proofs.laws.tells_key.Goals as goal

pub returns-clause-tells : goal.returns-clause-tells
returns-clause-tells c = tells

pub returns-clause-untold : goal.returns-clause-untold
returns-clause-untold c = untold
