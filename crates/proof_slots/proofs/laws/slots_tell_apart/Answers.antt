use Rattle.proof_slots.proofs.Unswept.Kept.{slots_tell_apart}
use Rattle.proof_slots.proofs.laws.slots_tell_apart.Goals as goal

pub returns : goal.returns
returns c = slots_tell_apart
