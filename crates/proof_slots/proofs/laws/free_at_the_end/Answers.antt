use Rattle.proof_slots.proofs.Unswept.Shrinking.{free_at_the_end}
use Rattle.proof_slots.proofs.laws.free_at_the_end.Goals as goal

pub returns : goal.returns
returns c = free_at_the_end
