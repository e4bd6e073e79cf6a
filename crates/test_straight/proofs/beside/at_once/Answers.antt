use Rattle.std.proofs.Common.{sym, ◌∙◌}
use Rattle.test_straight.proofs.beside.at_once.Goals as goal

pub at_once-requires-clause-allowed : goal.at_once-requires-clause-allowed
at_once-requires-clause-allowed c = (1, sym c.denial.ensures ∙ c.in-None.is)
