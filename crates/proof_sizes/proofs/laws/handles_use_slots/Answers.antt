use Rattle.proof_sizes.proofs.OfCalls.{handles_use_slots}
use Rattle.proof_sizes.proofs.laws.handles_use_slots.Goals as goal

pub returns : goal.returns
returns c = handles_use_slots
