use Rattle.proof_garbage.proofs.Epochs.{ended_after_two}
use Rattle.proof_garbage.proofs.laws.two_epochs_are_grace.Goals as goal

pub returns : goal.returns
returns c limits before since ok grown = ended_after_two limits ok before since grown
