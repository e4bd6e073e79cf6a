use Rattle.proof_generations.proofs.Falling.ReadsOfLists.{read_for_good as law}
use Rattle.proof_generations.proofs.laws.falling.read_for_good.Goals as goal

pub returns : goal.returns
returns c = law
