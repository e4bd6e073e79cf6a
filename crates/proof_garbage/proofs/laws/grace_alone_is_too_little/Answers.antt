use Rattle.proof_garbage.proofs.PutBack.{not_dead_alone}
use Rattle.proof_garbage.proofs.laws.grace_alone_is_too_little.Goals as goal

pub returns : goal.returns
returns c law = not_dead_alone law
