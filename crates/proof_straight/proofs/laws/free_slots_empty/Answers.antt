use Rattle.proof_straight.proofs.Runs.Resting.{free_slots_empty}
use Rattle.proof_straight.proofs.laws.free_slots_empty.Goals as goal

pub returns : goal.returns
returns c = free_slots_empty
