use Rattle.std.proofs.Common.{◌∙◌}
use Rattle.shared_map.specs.Telling.{restored_in}
use Rattle.ctrie_c.proofs.Tries.{tried, untried}
use Rattle.ctrie_c.proofs.shared_changing.ctrie_shared_try_restore.Goals as goal

pub returns-in-Err-clause-does : goal.returns-in-Err-clause-does
returns-in-Err-clause-does c = untried _ _ _ _ c.in-Err.ensures.refused

pub returns-in-Ok-clause-does : goal.returns-in-Ok-clause-does
returns-in-Ok-clause-does c = tried restored_in _ _ _ _ _ _ c.in-Ok.ensures.asked c.tell_done.ensures.bound (c.tell_done.ensures.told ∙ c.restored.ensures)
