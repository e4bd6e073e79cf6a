use Rattle.std.proofs.Common.{◌-◌, ◌^◌}
use Rattle.proof_runs.specs.Machines.{state_of}
use Rattle.proof_runs.proofs.Sweeping.{IsSwept}
use Rattle.step_machine.proofs.machine.Machine.sweep_all.Given as goal

-- steps of the sweep led here
abbrev pub invariant-loop-self : goal.invariant-loop-self
invariant-loop-self l = IsSwept l.initial.self l.self

-- how many steps the machine has left
abbrev pub decreases-loop-self : goal.decreases-loop-self
decreases-loop-self l = 2 ^ 40 - (state_of l.self).steps
