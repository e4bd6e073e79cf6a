use Rattle.proof_memory.proofs.Limbo.Zeros.{freed_late}
use Rattle.proof_memory.proofs.laws.freed_when_zero_for_two_epochs.Goals as goal

pub returns : goal.returns
returns c limits steps s r ok = freed_late limits ok steps s r
