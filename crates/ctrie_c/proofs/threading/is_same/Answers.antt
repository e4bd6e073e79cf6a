use Rattle.std.proofs.Common.{sym, ◌∙◌}
use Rattle.ctrie_c.proofs.SameCalls.{other_calls, same_calls}
use Rattle.ctrie_c.proofs.threading.is_same.Goals as goal

pub returns-clause-same : goal.returns-clause-same
returns-clause-same c is = same_calls c.args.asked c.args.call (sym c.compared.ensures ∙ is)

pub returns-clause-apart : goal.returns-clause-apart
returns-clause-apart c is = other_calls c.args.asked c.args.call (sym c.compared.ensures ∙ is)
