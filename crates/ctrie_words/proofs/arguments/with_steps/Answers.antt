use Rattle.ctrie_words.proofs.Building.{added}
use Rattle.ctrie_words.proofs.arguments.with_steps.Goals as goal

pub returns : goal.returns
returns c = added _ _ _ _ c.in_ok-wanted.ensures.app c.in_ok-wanted.ensures.local c.subcommand.ensures
