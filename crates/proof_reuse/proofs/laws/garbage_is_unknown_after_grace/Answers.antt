use Rattle.proof_reuse.proofs.Unknown.{unknown_after_grace}
use Rattle.proof_reuse.proofs.laws.garbage_is_unknown_after_grace.Goals as goal

pub returns : goal.returns
returns c limits first middle last r ok g used ended = unknown_after_grace limits ok first middle last r g used ended
