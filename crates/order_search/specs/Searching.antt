-- What a search for a legal order comes to.
use Rattle.std.specs.Prelude.{ℕ, List, ◌++◌}
use Rattle.order_search.specs.Vocabulary.{Event, IsLegal}

-- no order is legal for the history
abbrev pub HasNoOrder : (ℕ → ℕ) → List Event → Type 0
HasNoOrder hash history = (order : List ℕ) → ¬ IsLegal hash history order

-- no order that begins with these ids is legal for the history
abbrev pub NoneGoesOn : (ℕ → ℕ) → List Event → List ℕ → Type 0
NoneGoesOn hash history ids = (more : List ℕ) → ¬ IsLegal hash history (ids ++ more)
