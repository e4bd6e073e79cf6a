use Rattle.std.proofs.Common.{◌≡◌}
use Rattle.bench_machine.proofs.gating.work.Given as goal

abbrev pub invariant-loop-n : goal.invariant-loop-n
invariant-loop-n g l = l.seat.runner ≡ l.fn.seat.runner
