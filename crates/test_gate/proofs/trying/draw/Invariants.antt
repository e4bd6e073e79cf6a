use Rattle.test_gate.proofs.trying.draw.Given as goal
use Rattle.gate.specs.Seats.{IsSeatOf}

abbrev pub invariant-loop : goal.invariant-loop
invariant-loop l = IsSeatOf l.gate l.seat
