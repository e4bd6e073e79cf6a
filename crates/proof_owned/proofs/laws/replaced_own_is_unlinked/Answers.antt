use Rattle.proof_owned.proofs.OfLists.{replaced_own_is_unlinked, failed_own_is_unlinked}
use Rattle.proof_owned.proofs.laws.replaced_own_is_unlinked.Goals as goal

pub returns-clause-replaced : goal.returns-clause-replaced
returns-clause-replaced c = replaced_own_is_unlinked

pub returns-clause-failed : goal.returns-clause-failed
returns-clause-failed c = failed_own_is_unlinked
