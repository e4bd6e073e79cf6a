-- How places stand in segments: a closing ends the segment of the places up to its step.
use Rattle.std.specs.Prelude.{◌≡◌, ℕ, ◌+◌, ◌<◌, ◌≤◌, Bool, List, [], ◌∷◌, ⊤, All, count_by}
use Rattle.places.specs.declared.place.Place.{Place}

-- what a caller sees: the places in the order in which they came, the steps of the closings, how often a place was written or
-- moved, and for how many places and closings there is room
pub record Listing : Type 0 where
  pub places : List Place
  pub closings : List ℕ
  pub ticks : ℕ
  pub room_to_add : ℕ
  pub room_to_close : ℕ

-- behind the first place above the closing all are above it
abbrev pub IsCut : ℕ → List Place → Type 0
IsCut closing [] = ⊤
IsCut closing (place ∷ places) = (closing < place.step → All (λ other. closing < other.step) places) × IsCut closing places

-- the same for each of the closings
abbrev pub AreCut : List ℕ → List Place → Type 0
AreCut closings places = All (λ closing. IsCut closing places) closings

-- what is listed is cut by each closing, and what came late is the rest
pub record IsKept (places listed stray : List Place) (closings : List ℕ) (closed : ℕ) : Type 0 where
  pub cut : AreCut closings listed
  pub newest : All (λ closing. closing ≤ closed) closings
  pub all : (test : Place → Bool) → count_by test places ≡ count_by test listed + count_by test stray
