use Rattle.machine_model.proofs.Embedding.{steps_of_reads}
use Rattle.machine_model.proofs.laws.steps_of_reads.Goals as goal

pub returns : goal.returns
returns c = steps_of_reads
