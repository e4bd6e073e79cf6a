use Rattle.proof_obstruction_free.proofs.Programs.{renew_ends}
use Rattle.proof_obstruction_free.proofs.laws.programs.renews_end.Goals as goal

pub returns : goal.returns
returns c = renew_ends
