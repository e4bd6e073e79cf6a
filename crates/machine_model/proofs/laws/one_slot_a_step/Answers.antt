use Rattle.machine_model.proofs.Taking.{one_slot}
use Rattle.machine_model.proofs.laws.one_slot_a_step.Goals as goal

pub returns : goal.returns
returns c = one_slot
