-- A machine that may take more steps takes the same.
use Rattle.std.specs.Prelude.{◌≡◌, ℕ, ◌≤◌, List, length}
use Rattle.machine_model.specs.declared.steps.Bounds.{Bounds}
use Rattle.machine_model.specs.declared.steps.Step.{Step}
use Rattle.machine_model.specs.States.{State}
use Rattle.machine_model.specs.Machine.{run}
use Rattle.machine_model.specs.Records.{record_of}

-- the same sizes, and so many steps
abbrev pub living : Bounds → ℕ → Bounds
living limits m = record limits { steps = m }

-- the state of a machine that takes so many
abbrev pub lasting : ℕ → State → State
lasting m state = record state { limits = living state.limits m }

-- as long as both may take them all, steps lead to the same, but for how many there may be, and the same is recorded of them
abbrev pub LifeChangesNothing : Type 0
LifeChangesNothing =
    (limits : Bounds) (m : ℕ) (steps : List Step) → length steps ≤ limits.steps → length steps ≤ m →
    (run (living limits m) steps ≡ lasting m (run limits steps)) × (record_of (living limits m) steps ≡ record_of limits steps)
