use Rattle.std.proofs.Common.{sym, ◌∙◌}
use Rattle.std.proofs.lemmas.Result.{err_from_is_err_and}
use Rattle.lock_runner.proofs.Holds.{held}
use Rattle.history.proofs.Places.{option_tested, option_untested}
use Rattle.lock_runner.proofs.Steps.{stopped, begun, only_began, begin_busy, begin_stops, begin_goes}
use Rattle.lock_runner.proofs.runner.Runner.begin.Goals as goal

pub invariant_of-seat-in_err-began : goal.invariant_of-seat-in_err-began
invariant_of-seat-in_err-began g c =
    stopped _ _ _ _ _ _ _ _ _ c.seat.invariant c.reserve.ensures.items (held _ _ _ _ c.in_err-began.ensures)

pub unreachable-requires : goal.unreachable-requires
unreachable-requires g c =
    only_began _ _ _ _ _ _ _ _ c.seat.invariant (held _ _ _ _ c.in_ok-began.ensures) c.in_default.not-Began

pub invariant_of-seat-2 : goal.invariant_of-seat-2
invariant_of-seat-2 g c =
    begun _ _ _ _ _ _ _ _ _ _ c.seat.invariant c.reserve.ensures.items (held _ _ _ _ c.in_ok-began.ensures) c.in-Began.is

pub returns-then-is_some : goal.returns-then-is_some
returns-then-is_some g c =
    let runs = option_tested _ (sym c.is_some.ensures ∙ c.if-is_some.true) in
    begin_busy _ _ _ _ _ runs.0 _ _ c.seat.view_is c.seat.invariant runs.1

pub returns-in_err-began : goal.returns-in_err-began
returns-in_err-began g c =
    let p = err_from_is_err_and c.from_residual-in_err-began.result c.from_residual-in_err-began.ensures.1 in
    rw (p.1, p.2) (begin_stops _ _ _ _ _ _ _ _ _ _ c.seat.view_is (option_untested _ (sym c.is_some.ensures ∙ c.if-is_some.false)) c.reserve.ensures.items (held _ _ _ _ c.in_err-began.ensures))

pub returns : goal.returns
returns g c =
    begin_goes _ _ _ _ _ _ _ _ _ _ _ c.seat.view_is (option_untested _ (sym c.is_some.ensures ∙ c.if-is_some.false)) c.reserve.ensures.items (held _ _ _ _ c.in_ok-began.ensures) c.in-Began.is
