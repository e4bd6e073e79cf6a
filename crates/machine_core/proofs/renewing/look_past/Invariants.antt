use Rattle.machine_core.proofs.Passed.{CameDown}
use Rattle.machine_core.proofs.renewing.look_past.Given as goal

-- what leads on from there leads on from the root
abbrev pub invariant-loop-depth : goal.invariant-loop-depth
invariant-loop-depth l = CameDown l.heap.heap l.fn.root l.hash l.key l.depth l.indirection
