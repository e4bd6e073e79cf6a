use Rattle.std.proofs.Common.{◌≡◌}
use Rattle.bench_machine.proofs.gating.sweep_through.Given as goal

abbrev pub invariant-loop : goal.invariant-loop
invariant-loop g l = l.seat.runner ≡ l.fn.seat.runner
