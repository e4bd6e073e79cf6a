use Rattle.std.proofs.lemmas.Result.{err_from_is_err_and}
use Rattle.ctrie_map.proofs.Walks.{compares, refuses_comparing}
use Rattle.ctrie_map.proofs.comparing.differences_in.Goals as goal

pub returns-clause-differences : goal.returns-clause-differences
returns-clause-differences c =
    compares c.args.core.now.state c.limits.ensures.of_run c.args.older c.args.newer c.in_ok-differences.field-0.items c.in_ok-differences.ensures.open.0 c.in_ok-differences.ensures.open.1
    c.in_ok-differences.ensures.exact

pub returns-in_err-differences-clause-refused : goal.returns-in_err-differences-clause-refused
returns-in_err-differences-clause-refused c =
    let p = err_from_is_err_and c.from_residual.result c.from_residual.ensures.1 in
    rw p.1 (refuses_comparing c.args.core.now.state c.limits.ensures.of_run c.args.older c.args.newer c.in_err-differences.field-0.0 p.0 p.2 c.in_err-differences.ensures.refused)
