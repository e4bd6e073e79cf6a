-- None is legal, and that is told.
use Rattle.std.proofs.Common.{Ok, ap, ◌∙◌}
use Rattle.order_search.specs.declared.searching.Search.{Search}
use Rattle.history_commands.proofs.ordering.told_of.Goals as goal

pub returns-in-NotThere-clause-tells : goal.returns-in-NotThere-clause-tells
returns-in-NotThere-clause-tells c = (c.looked_for.ensures.not_there (c.in_ok-looked_for.was ∙ ap (λ (s : Search). Ok s) c.in-NotThere.is), c.in_ok-line_of-in-NotThere.ensures)
