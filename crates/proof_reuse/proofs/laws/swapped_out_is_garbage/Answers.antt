use Rattle.proof_reuse.proofs.SwappedOut.{swapped_out_garbage}
use Rattle.proof_reuse.proofs.laws.swapped_out_is_garbage.Goals as goal

pub returns : goal.returns
returns c limits before since actor i m f ok h own used = swapped_out_garbage limits before since ok actor i m f h own used
