use Rattle.proof_obstruction_free.proofs.Slots.Few.{makes_at_most, enough_slots as enough}
use Rattle.proof_obstruction_free.proofs.Slots.AtBegin.{enough_at_begin}
use Rattle.proof_obstruction_free.proofs.laws.endings.enough_slots.Goals as goal

pub returns-clause-makes : goal.returns-clause-makes
returns-clause-makes c = makes_at_most

pub returns-clause-spare : goal.returns-clause-spare
returns-clause-spare c = enough

pub returns-clause-begun : goal.returns-clause-begun
returns-clause-begun c = enough_at_begin
