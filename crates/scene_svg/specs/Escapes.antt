-- Texts as they stand in a document, so that no text of a scene can end an element or begin one.
use Rattle.std.specs.Prelude.{ℕ, ◌-◌, List, [], ◌∷◌, ◌++◌, ◌==◌, ◌&&◌, length, take, nat_le, codes, if◌then◌else◌}
use Rattle.std.specs.List.{flat_map}

-- a byte of a text: the four marks that mean something in a document have names, and what isn't printable ASCII
-- is a question mark
abbrev pub escape : ℕ → List ℕ
escape byte =
    if byte == 38 then codes "&amp;" else (if byte == 60 then codes "&lt;" else (if byte == 62 then codes "&gt;" else (if byte == 34 then codes "&quot;" else
    (if nat_le 32 byte && nat_le byte 126 then byte ∷ [] else codes "?"))))

abbrev pub escaped : List ℕ → List ℕ
escaped text = flat_map escape text

-- the beginning of a text that is too long, with room for two dots behind it
abbrev pub kept : ℕ → List ℕ → List ℕ
kept room text = take (room - 2) text

-- as much of a text as there is room for
abbrev pub fitted : ℕ → List ℕ → List ℕ
fitted room text = if nat_le (length text) room then escaped text else escaped (kept room text) ++ codes ".."
