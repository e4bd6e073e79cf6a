use Rattle.proof_updates.proofs.Tries.OfLists.{each_step_does as law}
use Rattle.proof_updates.proofs.laws.tries.each_step_does.Goals as goal

pub returns : goal.returns
returns c = law
