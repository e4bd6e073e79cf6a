use Rattle.proof_generations.proofs.Falling.OfLists.{fall_below as law}
use Rattle.proof_generations.proofs.laws.falling.generations_fall.Goals as goal

pub returns : goal.returns
returns c = law
