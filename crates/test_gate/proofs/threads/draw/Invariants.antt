use Rattle.test_gate.proofs.threads.draw.Given as goal
use Rattle.gate.specs.Seats.{IsSeatOf}

abbrev pub invariant-loop : goal.invariant-loop
invariant-loop g l = IsSeatOf l.gate l.seat
