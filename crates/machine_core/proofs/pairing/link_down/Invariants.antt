use Rattle.std.specs.Prelude.{◌-◌}
use Rattle.machine_core.proofs.Paired.{IsLinked}
use Rattle.machine_core.proofs.pairing.link_down.Given as goal

-- the way is made up to there
abbrev pub invariant-loop-at : goal.invariant-loop-at
invariant-loop-at l = IsLinked l.fn.heap l.fn.made.items l.generation l.hash l.from l.depth l.at l.fn.main l.heap l.made.items l.link

-- so many levels are left
abbrev pub decreases-loop-at : goal.decreases-loop-at
decreases-loop-at l = l.at - l.from
