use Rattle.proof_slots.proofs.Unswept.Kept.{nothing_is_freed}
use Rattle.proof_slots.proofs.laws.nothing_is_freed.Goals as goal

pub returns : goal.returns
returns c = nothing_is_freed
