use Rattle.proof_slots.proofs.Padded.Runs.{more_slots_alike}
use Rattle.proof_slots.proofs.laws.more_slots_alike.Goals as goal

pub returns : goal.returns
returns c = more_slots_alike
