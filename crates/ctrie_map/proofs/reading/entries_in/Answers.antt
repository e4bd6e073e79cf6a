use Rattle.std.proofs.Common.{Ok, sym, ap, ◌∙◌}
use Rattle.std.proofs.lemmas.Result.{err_from_is_err_and}
use Rattle.ctrie_map.proofs.Lookups.{entries_read, refuses}
use Rattle.ctrie_map.proofs.reading.entries_in.Goals as goal

pub returns-clause-entries : goal.returns-clause-entries
returns-clause-entries c = entries_read c.args.core.now.state c.limits.ensures.of_run c.args.handle c.in_ok-content.ensures.open ∙ ap Ok (sym (c.into_vec.ensures ∙ c.in_ok-content.ensures.exact))

pub returns-in_err-content-clause-refused : goal.returns-in_err-content-clause-refused
returns-in_err-content-clause-refused c =
    let p = err_from_is_err_and c.from_residual.result c.from_residual.ensures.1 in
    rw p.1 (refuses c.args.core.now.state c.limits.ensures.of_run c.args.handle c.in_err-content.field-0.0 p.0 p.2 c.in_err-content.ensures.refused)
