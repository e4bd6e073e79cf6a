use Rattle.proof_memory.proofs.Levels.ShapeStates.{never_there}
use Rattle.proof_memory.proofs.laws.never_impossible.Goals as goal

pub returns : goal.returns
returns c limits steps actor operation ok = never_there limits ok steps actor operation
