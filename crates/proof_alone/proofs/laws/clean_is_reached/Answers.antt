use Rattle.proof_alone.proofs.Sweeping.{clean_is_reached}
use Rattle.proof_alone.proofs.laws.clean_is_reached.Goals as goal

pub returns : goal.returns
returns c = clean_is_reached
