-- The lines of the header: `slots N`, `hash NAME`, `actors N`. Any fault of them is BadHeader. The line of the hash is that
-- of a history.
use Rattle.std.specs.Prelude.{ℕ, List, [], ◌∷◌, Result, Ok, Err, codes, if◌then◌else◌}
use Rattle.std.specs.Str.{bytes_eq}
use Rattle.ctrie_base.specs.declared.refusals.Refusal.{Refusal}
use Rattle.ctrie_base.specs.declared.refusals.Refusal.TheVariants.{BadHeader}
use Rattle.text_lines.specs.Words.{number_from}

-- what must stand in the header
abbrev pub header_value : Result ℕ Refusal → Result ℕ Refusal
header_value (Ok n) = Ok n
header_value (Err e) = Err BadHeader

-- a line of this name and a number in this range
unfoldable pub header_number : List ℕ → ℕ → ℕ → List (List ℕ) → Result ℕ Refusal
header_number name least limit (word ∷ number ∷ []) = if bytes_eq word name then header_value (number_from least limit number) else Err BadHeader
header_number name least limit other = Err BadHeader

abbrev pub slots_of : List (List ℕ) → Result ℕ Refusal
slots_of words = header_number (codes "slots") 2 65536 words

abbrev pub actors_of : List (List ℕ) → Result ℕ Refusal
actors_of words = header_number (codes "actors") 1 64 words
