use Rattle.proof_alone.proofs.Wanting.{enough_slots_for_calls}
use Rattle.proof_alone.proofs.laws.enough_slots_for_calls.Goals as goal

pub returns : goal.returns
returns c = enough_slots_for_calls
