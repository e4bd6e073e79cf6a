use Rattle.proof_obstruction_free.proofs.Ends.Bounds.{copies_end_first, copies_end as all_copies_end}
use Rattle.proof_obstruction_free.proofs.laws.programs.copies_end.Goals as goal

pub returns-clause-first : goal.returns-clause-first
returns-clause-first c = copies_end_first

pub returns-clause-under_way : goal.returns-clause-under_way
returns-clause-under_way c = all_copies_end
