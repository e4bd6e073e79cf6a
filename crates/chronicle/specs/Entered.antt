-- Who stands in the order.
use Rattle.std.specs.Prelude.{◌≡◌, ℕ, ◌==◌, Bool, false, List, slice_index_or}
use Rattle.std.specs.List.{list_any}
use Rattle.places.specs.declared.place.Place.{Place}

-- what a caller sees: the places in the order in which they came, the steps of the closings, of how many ids there is a mark, and for how
-- many ids, places and closings there is memory
pub record Entered : Type 0 where
  pub places : List Place
  pub closings : List ℕ
  pub ids : ℕ
  pub room_to_begin : ℕ
  pub room_to_add : ℕ
  pub room_to_close : ℕ

-- just the ids are marked that have a place
abbrev pub AreMarked : List Bool → List Place → Type 0
AreMarked marks places = (id : ℕ) → slice_index_or marks id false ≡ list_any (λ place. place.id == id) places
