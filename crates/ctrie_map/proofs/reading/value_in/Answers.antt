use Rattle.std.proofs.Common.{Ok, sym, ap, ◌∙◌}
use Rattle.std.specs.FinMap as map
use Rattle.ctrie_map.proofs.Lookups.{closed, value_read}
use Rattle.ctrie_map.proofs.reading.value_in.Goals as goal

pub returns-in-Ok : goal.returns-in-Ok
returns-in-Ok c = ap Ok c.in-Ok.ensures.found ∙ sym (value_read c.args.core.now.state c.limits.ensures.of_run c.args.handle c.args.key c.in-Ok.ensures.open)

pub returns-in-Err : goal.returns-in-Err
returns-in-Err c = sym (closed c.args.core.now.state c.limits.ensures.of_run c.args.handle (λ m. map.get m c.args.key) c.in-Err.ensures.refused.0)
