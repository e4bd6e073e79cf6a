use Rattle.shared_map.specs.Seats.{IsSeatOf}
use Rattle.test_shared.proofs.calls.put_each.Given as goal

abbrev pub invariant-loop-key : goal.invariant-loop-key
invariant-loop-key g l = IsSeatOf l.map l.seat
