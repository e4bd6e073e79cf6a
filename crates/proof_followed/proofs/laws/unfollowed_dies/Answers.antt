use Rattle.proof_followed.proofs.Grace.{dies}
use Rattle.proof_followed.proofs.laws.unfollowed_dies.Goals as goal

pub returns : goal.returns
returns c limits before since r ok used unfollowed nobody h = dies limits ok before r used unfollowed nobody since h
