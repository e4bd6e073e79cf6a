-- A branch as its 32 places: at each stands an entry, or none.
use Rattle.std.specs.Prelude.{◌≡◌, ℕ, List, [], ◌∷◌, map, length, Option, Some, None, is_some, slice_index_or}
use lib.Lanes.{mask_l}
use Rattle.proof_contents.specs.Vocabulary.{Ref}

-- the entries that stand there, in order
abbrev pub standing : List (Option Ref) → List Ref
standing [] = []
standing (None ∷ places) = standing places
standing (Some entry ∷ places) = entry ∷ standing places

-- a branch of this bitmap and these entries has just them, in these places
pub record HasPlaces (bitmap : ℕ) (entries : List Ref) (places : List (Option Ref)) : Type 0 where
  pub size : length places ≡ 32
  pub bits : bitmap ≡ mask_l (map is_some places)
  pub stand : entries ≡ standing places

-- what stands at a place
abbrev pub at_place : List (Option Ref) → ℕ → Option Ref
at_place places x = slice_index_or places x None
