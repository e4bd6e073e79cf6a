-- A law of texts.
use Rattle.std.specs.Prelude.{ℕ, Bool, List, IsTrue, ◌==◌, ◌&&◌, not, nat_le}
use Rattle.std.specs.List.{list_all}
use Rattle.scene_svg.specs.Escapes.{escaped}

-- a printable character other than `<`, `>` and `"`
abbrev pub is_harmless : ℕ → Bool
is_harmless byte = (nat_le 32 byte && nat_le byte 126) && (not (byte == 60) && (not (byte == 62) && not (byte == 34)))

-- whatever the text, as it stands in a document it begins and ends no element, and no value of an attribute
abbrev pub IsHarmless : Type 0
IsHarmless = (text : List ℕ) → IsTrue (list_all is_harmless (escaped text))
