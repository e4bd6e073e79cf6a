-- How the differences of two maps are told.
use Rattle.std.specs.Prelude.{◌≡◌, ℕ, List, length, map, is_some, unwrap_or, Result, IfOk, IfErr}
use Rattle.shared_map.specs.Beneath.machine_core.specs.declared.differing.Difference as found
use Rattle.shared_map.specs.Beneath.ctrie_map.specs.declared.errors.MapError.{MapError}
use Rattle.shared_map.specs.Beneath.ctrie_map.specs.Maps.{MapState}
use Rattle.shared_map.specs.Beneath.ctrie_map.specs.Reading.{Compares, RefusesComparing}
use Rattle.ctrie_c.specs.Buffers.{Fills}
use Rattle.ctrie_c.specs.declared.comparing.Difference.{Difference}

-- with 0 for a value that isn't there
abbrev pub difference_told : found.Difference → Difference
difference_told d = record { key = d.key; before = unwrap_or d.before 0; after = unwrap_or d.after 0; was_there = is_some d.before; is_there = is_some d.after }

-- how many keys two handles' maps have different values of, and as many of these as there is room for
abbrev pub Differs : List Difference → List Difference → ℕ → ℕ → Result ℕ MapError → MapState → MapState → Type 0
Differs before after older newer told old new =
    (new ≡ old)
    × IfOk told (λ count. (differences : List found.Difference) × Compares old older newer differences × (count ≡ length differences) × Fills (map difference_told differences) before after)
    × IfErr told (λ error. RefusesComparing old older newer error × (after ≡ before))
