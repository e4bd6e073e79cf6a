-- When generations were closed.
use Rattle.std.specs.Prelude.{◌≡◌, ℕ, ◌==◌, List, Option, None, find, slice_index_or}
use Rattle.machine_model.specs.declared.records.Closing.{Closing}
use Rattle.machine_model.specs.Records.{step_of}

-- what a caller sees: the closings as they came, of how many generations a closing is kept, and for how many more there is memory
pub record Closed : Type 0 where
  pub closings : List Closing
  pub generations : ℕ
  pub room : ℕ

-- the step that closed a generation, if one did, by the first of these closings that is of it
abbrev pub closing_step : List Closing → ℕ → Option ℕ
closing_step closings generation = step_of (find (λ c. c.generation == generation) closings)

-- each generation's step stands at its number
abbrev pub AreFound : List (Option ℕ) → List Closing → Type 0
AreFound steps closings = (generation : ℕ) → slice_index_or steps generation None ≡ closing_step closings generation
