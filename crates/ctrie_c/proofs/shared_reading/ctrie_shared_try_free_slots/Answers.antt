use Rattle.std.specs.Prelude.{Ok}
use Rattle.std.proofs.Common.{ap, ◌∙◌}
use Rattle.shared_map.specs.Telling.{number_in}
use Rattle.ctrie_c.proofs.Tries.{tried, untried}
use Rattle.ctrie_c.proofs.shared_reading.ctrie_shared_try_free_slots.Goals as goal

pub returns-in-Err-clause-does : goal.returns-in-Err-clause-does
returns-in-Err-clause-does c = untried _ _ _ _ c.in-Err.ensures.refused

pub returns-in-Ok-clause-does : goal.returns-in-Ok-clause-does
returns-in-Ok-clause-does c = tried (λ told. Ok (number_in told)) _ _ _ _ _ _ c.in-Ok.ensures.asked c.tell_count.ensures.bound (c.tell_count.ensures.told ∙ ap Ok c.number.ensures)
