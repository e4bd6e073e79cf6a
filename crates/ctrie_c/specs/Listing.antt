-- How the pairs of a map are listed, in parts.
use Rattle.std.specs.Prelude.{◌≡◌, ◌≤◌, ℕ, true, List, [], ◌∷◌, length, map, Option, Some, None, Result, Ok, IfOk, IfErr, if◌then◌else◌}
use Rattle.std.specs.FinMap as finite
use Rattle.shared_map.specs.Beneath.proof_core.specs.Reading.{next_of}
use Rattle.shared_map.specs.Beneath.proof_core.specs.Scanning.{scanned}
use Rattle.shared_map.specs.Beneath.ctrie_map.specs.declared.errors.MapError.{MapError}
use Rattle.shared_map.specs.Beneath.ctrie_map.specs.Maps.{MapState}
use Rattle.shared_map.specs.Beneath.ctrie_map.specs.Reading.{RefusesReading, reading}
use Rattle.ctrie_c.specs.Answers.{told_by}
use Rattle.ctrie_c.specs.Buffers.{Fills}
use Rattle.ctrie_c.specs.declared.listing.Cursor.{Cursor}
use Rattle.ctrie_c.specs.declared.listing.Pair.{Pair}

-- the last key that was listed, if one was
abbrev pub last_of : Cursor → Option ℕ
last_of cursor = if cursor.begun then Some cursor.last else None

-- the cursor behind these pairs
abbrev pub behind : Cursor → List (ℕ × ℕ) → Cursor
behind cursor [] = cursor
behind cursor (pair ∷ pairs) = behind (record { last = pair.0; begun = true }) pairs

abbrev pub pair_of : ℕ × ℕ → Pair
pair_of pair = record { key = pair.0; value = pair.1 }

abbrev pub entry_of : Pair → ℕ × ℕ
entry_of pair = (pair.key, pair.value)

-- none or this one
abbrev pub pair_told : ℕ → Pair → Result (Option (ℕ × ℕ)) MapError
pair_told code pair = told_by None (Some (entry_of pair)) code

-- this part, for which there is room, is written at the front of a buffer, and the cursor goes behind it
abbrev pub Writes : List (ℕ × ℕ) → Cursor → List Pair → ℕ → Cursor → List Pair → Type 0
Writes part cursor before count behind_it after = (count ≡ length part) × (count ≤ length before) × Fills (map pair_of part) before after × (behind_it ≡ behind cursor part)

-- what comes next in a handle's map, as much as there is room for
abbrev pub reads_next : MapState → ℕ → Cursor → ℕ → Result (List (ℕ × ℕ)) MapError
reads_next now handle cursor room = reading now handle (λ m. next_of (last_of cursor) room (finite.entries m))

-- the same in the map's own order
abbrev pub scans_next : MapState → ℕ → Cursor → ℕ → Result (List (ℕ × ℕ)) MapError
scans_next now handle cursor room = reading now handle (λ m. scanned now.core.limits.hash (last_of cursor) room (finite.entries m))

-- what comes next of a handle's map is written, and nothing has changed
abbrev pub WritesNext : (MapState → ℕ → Cursor → ℕ → Result (List (ℕ × ℕ)) MapError) → Cursor → List Pair → Cursor → List Pair → ℕ → Result ℕ MapError → MapState → MapState → Type 0
WritesNext next cursor before behind_it after handle told old new =
    (new ≡ old)
    × IfOk told (λ count. (part : List (ℕ × ℕ)) × (next old handle cursor (length before) ≡ Ok part) × Writes part cursor before count behind_it after)
    × IfErr told (λ error. RefusesReading (next old handle cursor (length before)) error × (behind_it ≡ cursor) × (after ≡ before))

-- the next part by rising key, and in the map's own order
abbrev pub Lists : Cursor → List Pair → Cursor → List Pair → ℕ → Result ℕ MapError → MapState → MapState → Type 0
Lists = WritesNext reads_next

abbrev pub Scans : Cursor → List Pair → Cursor → List Pair → ℕ → Result ℕ MapError → MapState → MapState → Type 0
Scans = WritesNext scans_next
