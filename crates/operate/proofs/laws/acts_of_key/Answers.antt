use Rattle.operate.proofs.Wherever.{acts}
use Rattle.operate.proofs.laws.acts_of_key.Goals as goal

pub returns : goal.returns
returns c = acts
