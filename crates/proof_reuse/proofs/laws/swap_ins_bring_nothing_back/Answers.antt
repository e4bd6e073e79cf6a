use Rattle.proof_reuse.proofs.SwapIns.{none_swapped_back}
use Rattle.proof_reuse.proofs.laws.swap_ins_bring_nothing_back.Goals as goal

pub returns : goal.returns
returns c limits before since r ok used private_to_none = none_swapped_back limits ok before r used private_to_none since
