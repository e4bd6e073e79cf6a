use Rattle.std.proofs.Common.{◌++◌}
use Rattle.proof_reuse.specs.Beneath.machine_model.specs.Machine.{run}
use Rattle.proof_reuse.specs.Beneath.proof_memory.proofs.Safety.AtEachTime.{safe_along}
use Rattle.proof_reuse.specs.Beneath.proof_garbage.proofs.Epochs.{ended_after_two}
use Rattle.proof_followed.proofs.Grace.{dies}
use Rattle.proof_followed.proofs.InUse.{named_followed}
use Rattle.proof_reuse.proofs.SwapIns.{none_swapped_back}
use Rattle.proof_reuse.proofs.laws.garbage_is_dead_after_two_epochs.Goals as goal

pub returns : goal.returns
returns c limits before since r ok g grown =
    let dead = (dies limits ok before r g.in_use g.unfollowed g.unbrought since (none_swapped_back limits ok before r g.in_use g.private_to_none since)).1
    (ended_after_two limits ok before since grown) in
    (dead, λ actor operation is named. dead (named_followed (run limits (before ++ since)) (safe_along limits ok (before ++ since)) (λ id. Unit {0}) actor operation is tt r named))
