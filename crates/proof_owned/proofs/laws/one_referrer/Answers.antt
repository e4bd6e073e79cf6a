use Rattle.proof_owned.proofs.OfLists.{one_referrer as law}
use Rattle.proof_owned.proofs.laws.one_referrer.Goals as goal

pub returns : goal.returns
returns c = law
