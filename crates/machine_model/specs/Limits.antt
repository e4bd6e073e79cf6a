-- The limits of a machine that keeps its record, and what they bound.
use Rattle.std.specs.Prelude.{ℕ, ◌^◌, ◌≤◌}
use Rattle.machine_model.specs.declared.steps.Bounds.{Bounds}
use Rattle.machine_model.specs.declared.steps.Limits.{Limits}

-- how many steps such a machine takes
abbrev pub step_limit : ℕ
step_limit = 2 ^ 40

abbrev pub bounded : Limits → Bounds
bounded limits = record { slots = limits.slots; actors = limits.actors; hash = limits.hash; steps = step_limit }

-- the limits are in range
abbrev pub AreLimits : Limits → Type 0
AreLimits limits = (2 ≤ limits.slots) × (limits.slots ≤ 65536) × (1 ≤ limits.actors) × (limits.actors ≤ 64)
