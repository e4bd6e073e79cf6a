-- What parts of a scan come to, one behind another.
use Rattle.std.specs.Prelude.{◌≡◌, ℕ, ◌+◌, ◌≤◌, ◌++◌, List, [], ◌∷◌, length, Contains, Option, Some, None}
use Rattle.std.specs.FinMap as map
use Rattle.ctrie_map.specs.Vocabulary.{HashKind, KeyMap}
use Rattle.ctrie_map.specs.Beneath.proof_core.specs.Scanning.{scanned}

-- a part of a map and the one behind its last key are one part of it
abbrev pub PartsJoin : Type 0
PartsJoin = (kind : HashKind) (m : KeyMap) (after : Option ℕ) (room more : ℕ) (part : List (ℕ × ℕ)) (last value : ℕ) →
    scanned kind after room (map.entries m) ≡ part ++ (last, value) ∷ [] →
    scanned kind after (room + more) (map.entries m) ≡ scanned kind after room (map.entries m) ++ scanned kind (Some last) more (map.entries m)

-- one with room for all keys has each of them once
abbrev pub AllAreListed : Type 0
AllAreListed = (kind : HashKind) (m : KeyMap) (room : ℕ) → map.len m ≤ room →
    (length (scanned kind None room (map.entries m)) ≡ map.len m) × ((key value : ℕ) → map.get m key ≡ Some value → Contains (scanned kind None room (map.entries m)) (key, value))
