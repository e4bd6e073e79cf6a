use Rattle.snapshot.proofs.Drawing.{draws_generations}
use Rattle.snapshot.proofs.laws.draws_generations.Goals as goal

pub returns : goal.returns
returns c = draws_generations
