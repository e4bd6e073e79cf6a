use Rattle.proof_obstruction_free.proofs.Slots.Tries.{tries_make_few, enough_for_tries}
use Rattle.proof_obstruction_free.proofs.Slots.AtBegin.{tries_enough_at_begin}
use Rattle.proof_obstruction_free.proofs.laws.endings.enough_slots_for_tries.Goals as goal

pub returns-clause-makes : goal.returns-clause-makes
returns-clause-makes c = tries_make_few

pub returns-clause-spare : goal.returns-clause-spare
returns-clause-spare c = enough_for_tries

pub returns-clause-begun : goal.returns-clause-begun
returns-clause-begun c = tries_enough_at_begin
