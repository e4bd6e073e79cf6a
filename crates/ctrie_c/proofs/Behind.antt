-- The cursor behind the pairs that are listed.
use Rattle.std.proofs.Common.{◌≡◌, ℕ, true, List, [], ◌∷◌, ◌++◌, refl}
use Rattle.ctrie_c.specs.declared.listing.Cursor.{Cursor}
use Rattle.ctrie_c.specs.Listing.{behind}

-- behind the last one
pub behind_more : (cursor : Cursor) (pairs : List (ℕ × ℕ)) (pair : ℕ × ℕ) → behind cursor (pairs ++ pair ∷ []) ≡ record { last = pair.0; begun = true }
behind_more cursor [] pair = refl
behind_more cursor (first ∷ pairs) pair = behind_more (record { last = first.0; begun = true }) pairs pair
