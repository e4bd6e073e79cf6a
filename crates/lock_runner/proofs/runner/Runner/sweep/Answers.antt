use Rattle.std.proofs.Common.{refl}
use Rattle.std.proofs.lemmas.Result.{err_from_is_err_and}
use Rattle.lock_runner.proofs.Holds.{held}
use Rattle.lock_runner.proofs.Steps.{stopped, swept, only_swept, sweep_stops, sweep_goes}
use Rattle.lock_runner.proofs.runner.Runner.sweep.Goals as goal

pub invariant_of-seat : goal.invariant_of-seat
invariant_of-seat g c = stopped _ _ _ _ _ _ _ _ _ c.seat.invariant refl (held _ _ _ _ c.in_err-outcome.ensures)

pub returns-in_err-outcome : goal.returns-in_err-outcome
returns-in_err-outcome g c =
    let p = err_from_is_err_and c.from_residual.result c.from_residual.ensures.1 in
    rw (p.1, p.2) (sweep_stops _ _ _ _ _ _ _ _ c.seat.view_is (held _ _ _ _ c.in_err-outcome.ensures))

pub unreachable-requires : goal.unreachable-requires
unreachable-requires g c = only_swept _ _ _ (held _ _ _ _ c.in_ok-outcome.ensures) c.in_default.not-Swept

pub overflow_add-seat : goal.overflow_add-seat
overflow_add-seat g c = record { fits = (swept _ _ _ _ _ _ c.seat.invariant (held _ _ _ _ c.in_ok-outcome.ensures)).1 }

pub invariant_of-seat-2 : goal.invariant_of-seat-2
invariant_of-seat-2 g c = (swept _ _ _ _ _ _ c.seat.invariant (held _ _ _ _ c.in_ok-outcome.ensures)).0

pub returns : goal.returns
returns g c = sweep_goes _ _ _ _ _ _ _ _ _ c.seat.view_is (held _ _ _ _ c.in_ok-outcome.ensures) c.in-Swept.is
