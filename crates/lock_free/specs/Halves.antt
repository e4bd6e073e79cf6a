-- The entries of main nodes in plain memory as they stand in words: a half of one for each.
use Rattle.std.specs.Prelude.{◌<◌, ◌^◌, ℕ, List, All, insert, map, remove, slice_set}
use Rattle.trie_words.specs.Codes.{entry_code, entry_of, IsEntry}
use Rattle.trie_words.specs.declared.entries.Entry.{Entry}
use Rattle.lock_free.specs.declared.changing.Edit.{Edit}
use Rattle.lock_free.specs.declared.changing.Edit.TheVariants as edit

abbrev pub IsHalf : ℕ → Type 0
IsHalf half = half < 2 ^ 29

abbrev pub AreHalves : List ℕ → Type 0
AreHalves halves = All IsHalf halves

-- the entries that they are
abbrev pub entries_of_halves : List ℕ → List Entry
entries_of_halves halves = map entry_of halves

-- and the halves of entries
abbrev pub halves_of : List Entry → List ℕ
halves_of entries = map entry_code entries

-- ---- a change

abbrev pub FitsHalf : Edit → Type 0
FitsHalf (edit.Insert entry) = IsEntry entry
FitsHalf (edit.Update position entry) = IsEntry entry
FitsHalf e = Unit {0}

abbrev pub halves_edited : List ℕ → ℕ → Edit → List ℕ
halves_edited halves place (edit.Insert entry) = insert halves place (entry_code entry)
halves_edited halves place (edit.Update position entry) = slice_set halves position (entry_code entry)
halves_edited halves place (edit.Remove position) = remove halves position
halves_edited halves place (edit.Entomb single) = halves
