use Rattle.proof_owned.proofs.OfLists.{replaced_own_is_read_no_more as law}
use Rattle.proof_owned.proofs.laws.replaced_own_is_read_no_more.Goals as goal

pub returns : goal.returns
returns c = law
