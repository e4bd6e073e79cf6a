-- Lists of references in parts.
use Rattle.std.specs.Prelude.{◌≡◌, ℕ, ◌+◌, ◌-◌, ◌<◌, List, [], ◌∷◌, ◌++◌, length, take, drop, insert, slice_set, remove}
use Rattle.std.proofs.Common.{arith, length-drop}
use Rattle.std.proofs.lemmas.List.{take_all, append-nil, append_assoc, set_split}
use Rattle.slot_arena.specs.declared.refs.Ref.{Ref}

-- the part of a list from a position on
behind : (rs : List Ref) (i : ℕ) → take (length rs - i) (drop i rs) ≡ drop i rs
behind rs i = take_all (length rs - i) (drop i rs) (omega (arith, length-drop i rs))

-- a reference more at a position, in three parts
pub insert_parts : (rs : List Ref) (i : ℕ) (r : Ref) → take i rs ++ r ∷ [] ++ take (length rs - i) (drop i rs) ≡ insert rs i r
insert_parts rs i r = grind (arith, behind rs i, append_assoc (take i rs) (r ∷ []) (drop i rs))

-- another reference at a position, in three parts
pub set_parts : (rs : List Ref) (i : ℕ) (r : Ref) → i < length rs → take i rs ++ r ∷ [] ++ take (length rs - (i + 1)) (drop (i + 1) rs) ≡ slice_set rs i r
set_parts rs i r inside = grind (arith, behind rs (i + 1), set_split rs i r inside, append_assoc (take i rs) (r ∷ []) (drop (i + 1) rs))

-- without a position, in three parts
pub remove_parts : (rs : List Ref) (i : ℕ) → take i rs ++ [] ++ take (length rs - (i + 1)) (drop (i + 1) rs) ≡ remove rs i
remove_parts rs i = grind (arith, behind rs (i + 1), append-nil (take i rs))
