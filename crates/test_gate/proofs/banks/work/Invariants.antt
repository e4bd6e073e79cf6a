use Rattle.gate.specs.Seats.{IsSeatOf}
use Rattle.test_gate.proofs.banks.work.Given as goal

abbrev pub invariant-loop-round : goal.invariant-loop-round
invariant-loop-round g l = IsSeatOf l.bank l.seat.seat
