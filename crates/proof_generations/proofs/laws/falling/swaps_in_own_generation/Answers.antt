use Rattle.proof_generations.proofs.Falling.OfLists.{swaps_are_own as law}
use Rattle.proof_generations.proofs.laws.falling.swaps_in_own_generation.Goals as goal

pub returns : goal.returns
returns c = law
