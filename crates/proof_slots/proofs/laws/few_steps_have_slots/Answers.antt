use Rattle.proof_slots.proofs.Padded.Runs.{few_steps_have_slots}
use Rattle.proof_slots.proofs.laws.few_steps_have_slots.Goals as goal

pub returns : goal.returns
returns c = few_steps_have_slots
