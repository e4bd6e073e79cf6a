use Rattle.proof_owned.proofs.Shared.{own_or_shared as law, never_both}
use Rattle.proof_owned.proofs.laws.own_or_shared.Goals as goal

pub returns-clause-either : goal.returns-clause-either
returns-clause-either c = law

pub returns-clause-never_both : goal.returns-clause-never_both
returns-clause-never_both c = never_both
