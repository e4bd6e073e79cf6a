use Rattle.proof_reuse.proofs.Unlinked.{unlinked_garbage}
use Rattle.proof_reuse.proofs.laws.unlinked_is_garbage.Goals as goal

pub returns : goal.returns
returns c limits before since r ok once used unfollowed = unlinked_garbage limits ok before since r once used unfollowed
