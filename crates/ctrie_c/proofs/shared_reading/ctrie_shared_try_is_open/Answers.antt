use Rattle.std.specs.Prelude.{Ok, is_ok}
use Rattle.std.proofs.Common.{ap, ◌∙◌}
use Rattle.shared_map.specs.Telling.{open_in}
use Rattle.ctrie_c.proofs.Tries.{tried, untried}
use Rattle.ctrie_c.proofs.shared_reading.ctrie_shared_try_is_open.Goals as goal

pub returns-in-Err : goal.returns-in-Err
returns-in-Err c = record { does = untried _ _ _ _ c.in-Err.ensures.refused }

pub returns-in-Ok : goal.returns-in-Ok
returns-in-Ok c = record {
  does = tried (λ told. Ok (open_in told)) _ _ _ _ _ _ c.in-Ok.ensures.asked c.tell_truth.ensures.bound (c.tell_truth.ensures.told ∙ ap Ok (c.is_ok.ensures.value ∙ ap is_ok c.writable.ensures));
}
