-- The cell has what it had, or all was carried out anew.
use Rattle.order_search.proofs.worlds.take_back.Goals as goal

pub returns-clause-back : goal.returns-clause-back
returns-clause-back c = λ history last row known leads at differ. c.in_ok-world.ensures.world history last known leads
