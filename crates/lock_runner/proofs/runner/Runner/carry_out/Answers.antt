use Rattle.std.proofs.lemmas.Result.{err_from_is_err_and}
use Rattle.lock_runner.proofs.Whole.{stopped_at_once, begun_and}
use Rattle.lock_runner.proofs.runner.Runner.carry_out.Goals as goal

pub returns-in_err-begin : goal.returns-in_err-begin
returns-in_err-begin g c =
    let p = err_from_is_err_and c.from_residual.result c.from_residual.ensures.1 in
    rw (p.1, p.2) (stopped_at_once c.args.call c.in_err-begin.field-0.0 _ _ c.in_err-begin.ensures)

pub returns : goal.returns
returns g c = begun_and c.args.call c.carry_on.result _ _ _ c.in_ok-begin.ensures c.carry_on.ensures
