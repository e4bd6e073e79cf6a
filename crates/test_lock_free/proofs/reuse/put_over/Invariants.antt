use Rattle.std.proofs.Common.{◌≡◌}
use Rattle.test_lock_free.proofs.reuse.put_over.Given as goal

abbrev pub invariant-loop-n : goal.invariant-loop-n
invariant-loop-n g l = l.seat.table ≡ l.initial.seat.table
