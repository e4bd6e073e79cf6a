use Rattle.proof_slots.proofs.Padded.Runs.{more_slots_answer}
use Rattle.proof_slots.proofs.laws.more_slots_answer.Goals as goal

pub returns : goal.returns
returns c = more_slots_answer
