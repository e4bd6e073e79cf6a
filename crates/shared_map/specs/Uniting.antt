-- Several worlds as one: the handles of the first, each with the maps that it has in all of them together.
use Rattle.std.specs.Prelude.{◌≡◌, ℕ, suc, List, [], ◌∷◌, IsSome, Option, Some, None, flat_map, map, option_and_then, option_map}
use Rattle.std.specs.FinMap as maps
use Rattle.shared_map.specs.Vocabulary.{Access, HandleMap, HandleState, KeyMap}

abbrev pub pairs_of : Option HandleState → List (ℕ × ℕ)
pairs_of None = []
pairs_of (Some shown) = maps.entries shown.pairs

-- all pairs that the handle has
abbrev pub pairs_at : ℕ → List HandleMap → List (ℕ × ℕ)
pairs_at handle worlds = flat_map (λ w. pairs_of (maps.get w handle)) worlds

-- the map of them
abbrev pub united_at : List HandleMap → ℕ → KeyMap
united_at worlds handle = maps.from_entries (pairs_at handle worlds)

abbrev pub with_pairs : KeyMap → HandleState → HandleState
with_pairs m shown = record { access = shown.access; pairs = m }

-- all worlds as one
unfoldable pub united : List HandleMap → HandleMap
united [] = maps.empty
united (w ∷ ws) = maps.from_entries (map (λ e. (e.0, with_pairs (united_at (w ∷ ws) e.0) e.1)) (maps.entries w))

-- ---- worlds that belong together

-- what the handle's map has at the key, where it is open
abbrev pub value_of : ℕ → Option HandleState → Option ℕ
value_of key shown = option_and_then (λ s. maps.get s.pairs key) shown

abbrev pub value_at : HandleMap → ℕ → ℕ → Option ℕ
value_at world handle key = value_of key (maps.get world handle)

-- of these worlds, which are numbered from n on, each has keys of its own alone: those that have their place there
abbrev pub AreOwnFrom : (ℕ → ℕ) → ℕ → List HandleMap → Type 0
AreOwnFrom place n [] = Unit {0}
AreOwnFrom place n (w ∷ ws) = ((handle key : ℕ) → IsSome (value_at w handle key) → place key ≡ n) × AreOwnFrom place (suc n) ws

-- of which kind the handle is, if it is open
abbrev pub kind_of : Option HandleState → Option Access
kind_of shown = option_map (λ s. s.access) shown

-- in each world the same handles are open, each of the same kind
abbrev pub AreOfKinds : (ℕ → Option Access) → List HandleMap → Type 0
AreOfKinds kinds [] = Unit {0}
AreOfKinds kinds (w ∷ ws) = ((handle : ℕ) → kind_of (maps.get w handle) ≡ kinds handle) × AreOfKinds kinds ws
