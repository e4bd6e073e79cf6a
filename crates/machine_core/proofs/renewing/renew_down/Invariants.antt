use Rattle.machine_core.specs.Vocabulary.{node_at}
use Rattle.machine_core.proofs.WayDown.{ComesOn}
use Rattle.machine_core.proofs.renewing.renew_down.Given as goal

-- the call came down to there
abbrev pub invariant-loop-depth : goal.invariant-loop-depth
invariant-loop-depth l = ComesOn l.fn.parts l.parts l.root l.key l.place (node_at l.fn.parts.heap.heap l.place.main) l.depth l.indirection
