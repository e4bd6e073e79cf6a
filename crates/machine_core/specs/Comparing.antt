-- In which keys two maps differ.
use Rattle.std.specs.Prelude.{◌≡◌, ◌≢◌, ◌⊎◌, ◌==◌, ℕ, List, [], ◌∷◌, map, All, Contains, Option, Some, None, IsSome, if◌then◌else◌}
use Rattle.std.specs.List.Sorted.{IsStrictlySortedBy}
use Rattle.std.specs.Ordering.{nat_cmp}
use Rattle.machine_core.specs.Vocabulary.{Refusal, State, root_at}
use Rattle.ctrie_base.specs.declared.refusals.Refusal.TheVariants as refuse
use Rattle.machine_core.specs.declared.differing.Difference.{Difference}

-- the difference in one key, which has these values, if they differ
abbrev pub difference_of : ℕ → Option ℕ → Option ℕ → List Difference
difference_of key None None = []
difference_of key (Some v) (Some w) = if v == w then [] else record { key = key; before = Some v; after = Some w } ∷ []
difference_of key before after = record { key = key; before = before; after = after } ∷ []

abbrev pub key_of : Difference → ℕ
key_of difference = difference.key

-- These are all keys of which two maps have different values, in ascending order, each with its values in both; the maps are given by what each has of a key.
pub record AreDifferences (before after : ℕ → Option ℕ) (differences : List Difference) : Type 0 where
  pub rising : IsStrictlySortedBy nat_cmp (map key_of differences)
  pub each : All (λ (d : Difference). (d.before ≡ before d.key) × (d.after ≡ after d.key) × (d.before ≢ d.after)) differences
  pub all : (key : ℕ) → before key ≢ after key → Contains (map key_of differences) key

-- one of the two handles isn't open, or memory was wanting for what could be compared
abbrev pub RefusesEither : State → ℕ → ℕ → Refusal → Type 0
RefusesEither state older newer refusal =
    ((refusal ≡ refuse.NoHandle) × ((root_at state older ≡ None) ⊎ (root_at state newer ≡ None)))
    ⊎ ((refusal ≡ refuse.Memory) × IsSome (root_at state older) × IsSome (root_at state newer))
