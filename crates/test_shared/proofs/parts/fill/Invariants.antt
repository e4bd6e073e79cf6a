use Rattle.shared_map.specs.Seats.{IsSeatOf}
use Rattle.test_shared.proofs.parts.fill.Given as goal

abbrev pub invariant-loop-n : goal.invariant-loop-n
invariant-loop-n g l = IsSeatOf l.map l.seat
