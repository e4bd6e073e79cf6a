use Rattle.std.specs.Prelude.{◌+◌, ◌-◌}
use Rattle.proof_sizes.specs.Beneath.proof_alone.specs.Calls.{steps_of}
use Rattle.ctrie_map.proofs.Stepping.{IsOnWay}
use Rattle.ctrie_map.proofs.performing.step_through.Given as goal

-- the call is on its way
abbrev pub invariant-loop-core : goal.invariant-loop-core
invariant-loop-core l = IsOnWay l.fn.core.state l.fn.call l.core.state

-- its steps are left
abbrev pub decreases-loop-core : goal.decreases-loop-core
decreases-loop-core l = l.fn.core.state.steps + (1 + steps_of l.fn.call) - l.core.state.steps
