use Rattle.proof_slots.proofs.Wider.{wider_alike}
use Rattle.proof_slots.proofs.laws.wider_alike.Goals as goal

pub returns : goal.returns
returns c = wider_alike
