use Rattle.std.specs.Prelude.{◌-◌}
use Rattle.machine_core.proofs.Reclaimed.{IsReclaimed}
use Rattle.machine_core.proofs.sweeping.reclaim.Given as goal

-- steps of the sweep led there
abbrev pub invariant-loop-parts : goal.invariant-loop-parts
invariant-loop-parts l = IsReclaimed l.fn.parts l.parts

-- how many steps are left
abbrev pub decreases-loop-parts : goal.decreases-loop-parts
decreases-loop-parts l = l.parts.limits.steps - l.parts.steps
