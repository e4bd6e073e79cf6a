use Rattle.proof_slots.proofs.Below.{slots_are_below_births}
use Rattle.proof_slots.proofs.laws.slots_are_below_births.Goals as goal

pub returns : goal.returns
returns c = slots_are_below_births
