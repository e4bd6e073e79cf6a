-- The least pairs of many.
use Rattle.std.specs.Prelude.{◌≡◌, ℕ, Bool, List, ◌++◌, take}
use Rattle.std.specs.BinaryHeap.{heap_items}
use Rattle.std.specs.List.{filter}
use Rattle.machine_core.specs.Vocabulary.{by_key, is_after}
use Rattle.machine_core.specs.declared.selection.Selection.{Selection}

-- the least of these pairs, so many at most, in ascending order
abbrev pub least : ℕ → List (ℕ × ℕ) → List (ℕ × ℕ)
least room pairs = take room (by_key pairs)

-- what was selected
abbrev pub selected : Selection → List (ℕ × ℕ)
selected s = by_key (heap_items s.pairs)

-- whether the pair's key comes after the cursor
abbrev pub is_wanted : Selection → ℕ × ℕ → Bool
is_wanted s pair = is_after s.after pair.0

-- what will have been selected when these pairs were taken in
abbrev pub selected_with : Selection → List (ℕ × ℕ) → List (ℕ × ℕ)
selected_with s pairs = least s.room (filter (is_wanted s) pairs ++ heap_items s.pairs)

-- these pairs were taken in
abbrev pub Takes : Selection → List (ℕ × ℕ) → Selection → Type 0
Takes before pairs after = (after.after ≡ before.after) × (after.room ≡ before.room) × (selected after ≡ selected_with before pairs)
