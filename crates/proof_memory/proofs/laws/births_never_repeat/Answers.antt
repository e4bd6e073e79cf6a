use Rattle.proof_memory.proofs.Heap.Later.{one_node, drawn_once}
use Rattle.proof_memory.proofs.laws.births_never_repeat.Goals as goal

pub returns-clause-drawn : goal.returns-clause-drawn
returns-clause-drawn c limits before since r ok = drawn_once limits ok before since r

pub returns-clause-same : goal.returns-clause-same
returns-clause-same c limits steps more r was now ok = one_node limits ok steps more r was now
