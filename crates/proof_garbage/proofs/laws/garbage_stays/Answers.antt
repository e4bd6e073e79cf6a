use Rattle.proof_garbage.proofs.Stays.{stays_dead}
use Rattle.proof_garbage.proofs.laws.garbage_stays.Goals as goal

pub returns : goal.returns
returns c limits steps s r ok used dead h = dead (stays_dead limits steps s r ok used h)
