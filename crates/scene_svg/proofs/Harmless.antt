-- No escaped text begins or ends an element, or the value of an attribute.
use Rattle.std.proofs.Common.{◌≡◌, ℕ, Bool, true, false, List, [], ◌∷◌, refl, ◌∙◌}
use Rattle.std.specs.Prelude.{◌==◌, ◌&&◌, nat_le, codes, if◌then◌else◌}
use Rattle.std.specs.List.{list_all}
use Rattle.std.proofs.lemmas.List.Folds.{list_all-append}
use Rattle.scene_svg.specs.Escapes.{escape, escaped}
use Rattle.scene_svg.specs.Laws.{is_harmless}

-- by the answers of the tests
chosen : (byte : ℕ) (amp less greater quote plain : Bool) → (byte == 60) ≡ less → (byte == 62) ≡ greater → (byte == 34) ≡ quote → (nat_le 32 byte && nat_le byte 126) ≡ plain →
    list_all is_harmless (if amp then codes "&amp;" else (if less then codes "&lt;" else (if greater then codes "&gt;" else (if quote then codes "&quot;" else
    (if plain then byte ∷ [] else codes "?"))))) ≡ true
chosen byte true less greater quote plain l g q p = refl
chosen byte false true greater quote plain l g q p = refl
chosen byte false false true quote plain l g q p = refl
chosen byte false false false true plain l g q p = refl
chosen byte false false false false true l g q p = rw (p, l, g, q) refl
chosen byte false false false false false l g q p = refl

one : (byte : ℕ) → list_all is_harmless (escape byte) ≡ true
one byte = chosen byte (byte == 38) (byte == 60) (byte == 62) (byte == 34) (nat_le 32 byte && nat_le byte 126) refl refl refl refl

both : (b c : Bool) → b ≡ true → c ≡ true → (b && c) ≡ true
both b c is other = rw (is, other) refl

pub all_harmless : (text : List ℕ) → list_all is_harmless (escaped text) ≡ true
all_harmless [] = refl
all_harmless (byte ∷ text) = list_all-append is_harmless (escape byte) (escaped text) ∙ both _ _ (one byte) (all_harmless text)
