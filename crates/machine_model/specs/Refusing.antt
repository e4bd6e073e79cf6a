-- Why a machine isn't made, or its content isn't told.
use Rattle.std.specs.Prelude.{◌≡◌, ℕ, ◌⊎◌, None}
use Rattle.machine_model.specs.Beneath.ctrie_base.specs.declared.refusals.Refusal.{Refusal}
use Rattle.machine_model.specs.Beneath.ctrie_base.specs.declared.refusals.Refusal.TheVariants.{Memory, BadLimits, NoHandle}
use Rattle.machine_model.specs.declared.steps.Limits.{Limits}
use Rattle.machine_model.specs.States.{State, root_at}
use Rattle.machine_model.specs.Limits.{AreLimits}

-- the limits are out of range, or memory was lacking for limits in range
abbrev pub RefusesLimits : Limits → Refusal → Type 0
RefusesLimits limits refusal = ((¬ AreLimits limits) × (refusal ≡ BadLimits)) ⊎ (AreLimits limits × (refusal ≡ Memory))

-- the handle isn't open, or memory was lacking for an open one
abbrev pub RefusesContent : State → ℕ → Refusal → Type 0
RefusesContent state handle refusal = ((root_at state handle ≡ None) × (refusal ≡ NoHandle)) ⊎ ((¬ (root_at state handle ≡ None)) × (refusal ≡ Memory))
