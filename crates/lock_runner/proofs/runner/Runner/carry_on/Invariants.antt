use Rattle.std.proofs.Common.{◌≡◌}
use Rattle.lock_runner.specs.Stepping.{IsUntold}
use Rattle.lock_runner.proofs.runner.Runner.carry_on.Given as goal

abbrev pub invariant-loop : goal.invariant-loop
invariant-loop g l =
    (goal.iterator-loop g).can_next l.iterator' × (goal.iterator-loop g).is_finite l.iterator' × IsUntold l.initial.seat l.seat × (l.seat.running ≡ l.initial.seat.running)
