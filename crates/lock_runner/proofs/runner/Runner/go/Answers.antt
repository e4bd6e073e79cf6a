use Rattle.std.proofs.Common.{rules, ◌≡◌, [], ◌∷◌, ◌++◌}
use Rattle.lock_runner.specs.ActorHistory.{answered_at}
use Rattle.std.proofs.lemmas.Result.{err_from_is_err_and}
use Rattle.lock_runner.proofs.Holds.{held}
use Rattle.lock_runner.proofs.Steps.{not_busy, stopped, went, answered, go_idle, go_stops, go_goes, go_ends}
use Rattle.lock_runner.proofs.runner.Runner.go.Goals as goal

pub invariant_of-seat-in_err-ended : goal.invariant_of-seat-in_err-ended
invariant_of-seat-in_err-ended g c =
    stopped _ _ _ _ _ _ _ _ _ c.seat.invariant c.reserve.ensures.items (held _ _ _ _ c.in_err-ended.ensures)

pub returns-in_err-ended : goal.returns-in_err-ended
returns-in_err-ended g c =
    let p = err_from_is_err_and c.from_residual-in_err-ended.result c.from_residual-in_err-ended.ensures.1 in
    rw (p.1, p.2) (go_stops _ _ _ _ _ _ _ _ _ _ c.seat.view_is c.reserve.ensures.items c.seat.invariant c.in-Some.is (held _ _ _ _ c.in_err-ended.ensures))

pub returns-in_default : goal.returns-in_default
returns-in_default g c = go_idle _ _ _ _ _ _ c.seat.view_is c.seat.invariant (not_busy _ c.in_default.not-Some)

pub invariant_of-seat-in_default-outcome : goal.invariant_of-seat-in_default-outcome
invariant_of-seat-in_default-outcome g c =
    went _ _ _ _ _ _ _ c.seat.invariant c.reserve.ensures.items (held _ _ _ _ c.in_ok-ended.ensures) c.in_default-outcome.not-Ended

pub returns-in_default-outcome : goal.returns-in_default-outcome
returns-in_default-outcome g c =
    go_goes _ _ _ _ _ _ _ _ _ c.seat.view_is c.reserve.ensures.items c.seat.invariant (held _ _ _ _ c.in_ok-ended.ensures) c.in_default-outcome.not-Ended

pub invariant_of-seat-2 : goal.invariant_of-seat-2
invariant_of-seat-2 g c =
    let pushed : c.push.new.self.items ≡ c.reserve.new.self.items ++ answered_at c.in-Some.running c.in_ok-ended.ended c.in-Ended.reply ∷ [] = search rules in
    answered _ _ _ _ _ _ _ c.seat.invariant c.reserve.ensures.items (held _ _ _ _ c.in_ok-ended.ensures) _ _ c.in-Ended.is _ c.in-Some.is _ pushed

pub returns : goal.returns
returns g c =
    let pushed : c.push.new.self.items ≡ c.reserve.new.self.items ++ answered_at c.in-Some.running c.in_ok-ended.ended c.in-Ended.reply ∷ [] = search rules in
    go_ends _ _ _ _ _ _ _ _ _ _ _ _ _ c.seat.view_is c.reserve.ensures.items c.seat.invariant (held _ _ _ _ c.in_ok-ended.ensures) c.in-Ended.is c.in-Some.is pushed
