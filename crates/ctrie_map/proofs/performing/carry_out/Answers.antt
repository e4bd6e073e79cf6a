use Rattle.ctrie_map.specs.Cores.{the_actor}
use Rattle.ctrie_map.proofs.performing.carry_out.Goals as goal

pub at_once-requires-clause-allowed : goal.at_once-requires-clause-allowed
at_once-requires-clause-allowed c = (the_actor, c.requires.allowed)
