use Rattle.std.proofs.Common.{◌≡◌}
use Rattle.test_threads.proofs.growth.write.Given as goal

abbrev pub invariant-loop-k : goal.invariant-loop-k
invariant-loop-k g l = l.seat.runner ≡ l.initial.seat.runner
