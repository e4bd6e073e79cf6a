use Rattle.machine_core.proofs.Descent.{Reaches}
use Rattle.machine_core.proofs.descending.look_down.Given as goal

-- the hash leads down there
abbrev pub invariant-loop-depth : goal.invariant-loop-depth
invariant-loop-depth l = Reaches l.heap.heap l.fn.root l.hash l.depth l.indirection
