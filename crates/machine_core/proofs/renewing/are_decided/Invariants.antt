use Rattle.machine_core.specs.Renewing.{AreDecided}
use Rattle.machine_core.proofs.renewing.are_decided.Given as goal

-- the first entries can be renewed
abbrev pub invariant-loop-entry : goal.invariant-loop-entry
invariant-loop-entry l = AreDecided l.fn.heap.heap l.fn.main l.entry-index
