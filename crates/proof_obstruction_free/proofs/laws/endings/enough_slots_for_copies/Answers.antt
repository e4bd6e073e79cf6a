use Rattle.proof_obstruction_free.proofs.Slots.Few.{copies_make_few, enough_for_copies}
use Rattle.proof_obstruction_free.proofs.Slots.AtBegin.{copies_enough_at_begin}
use Rattle.proof_obstruction_free.proofs.laws.endings.enough_slots_for_copies.Goals as goal

pub returns-clause-makes : goal.returns-clause-makes
returns-clause-makes c = copies_make_few

pub returns-clause-spare : goal.returns-clause-spare
returns-clause-spare c = enough_for_copies

pub returns-clause-begun : goal.returns-clause-begun
returns-clause-begun c = copies_enough_at_begin
