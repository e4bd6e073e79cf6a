use Rattle.proof_owned.proofs.TakenOutOfLists.{taken_out_is_unlinked as law, mains_of_taken_out_are_unlinked}
use Rattle.proof_owned.proofs.laws.taken_out_is_unlinked.Goals as goal

pub returns-clause-indirections : goal.returns-clause-indirections
returns-clause-indirections c = law

pub returns-clause-mains : goal.returns-clause-mains
returns-clause-mains c = mains_of_taken_out_are_unlinked
