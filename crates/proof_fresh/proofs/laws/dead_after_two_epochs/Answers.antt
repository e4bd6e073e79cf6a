use Rattle.proof_garbage.proofs.Epochs.{ended_after_two}
use Rattle.proof_garbage.proofs.Grace.{dead}
use Rattle.proof_fresh.proofs.OnlyOffers.{only_by_offers}
use Rattle.proof_fresh.proofs.laws.dead_after_two_epochs.Goals as goal

pub returns : goal.returns
returns c limits before since r ok used unreached private_to_none h grown =
    (dead limits ok before r used unreached since (only_by_offers limits ok before r used private_to_none since h)).1 (ended_after_two limits ok before since grown)
