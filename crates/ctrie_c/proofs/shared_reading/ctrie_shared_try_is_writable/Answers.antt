use Rattle.std.proofs.Common.{◌∙◌}
use Rattle.shared_map.specs.Telling.{writable_in}
use Rattle.ctrie_c.proofs.Tries.{tried, untried}
use Rattle.ctrie_c.proofs.shared_reading.ctrie_shared_try_is_writable.Goals as goal

pub returns-in-Err : goal.returns-in-Err
returns-in-Err c = record { does = untried _ _ _ _ c.in-Err.ensures.refused }

pub returns-in-Ok : goal.returns-in-Ok
returns-in-Ok c = record { does = tried writable_in _ _ _ _ _ _ c.in-Ok.ensures.asked c.tell_truth.ensures.bound (c.tell_truth.ensures.told ∙ c.writable.ensures) }
