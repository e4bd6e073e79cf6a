use Rattle.proof_garbage.proofs.Grace.{dead}
use Rattle.proof_garbage.proofs.laws.dead_after_grace.Goals as goal

pub returns : goal.returns
returns c limits before since r ok used unreached h = dead limits ok before r used unreached since h
