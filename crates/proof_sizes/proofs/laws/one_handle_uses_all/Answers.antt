use Rattle.proof_sizes.proofs.OfCalls.{one_handle_uses_all}
use Rattle.proof_sizes.proofs.laws.one_handle_uses_all.Goals as goal

pub returns : goal.returns
returns c = one_handle_uses_all
