-- A search's way: the operations that it has placed, and what it knows of those that it has passed.
use Rattle.std.specs.Prelude.{◌≡◌, ℕ, ◌<◌, Bool, true, false, List, [], ◌∷◌, ◌++◌, length, take, Option, Some, None, slice_get, slice_set, IfSome}
use Rattle.order_search.specs.Vocabulary.{Event, Reply, Row, HandleMap, effect, IsRowOf, OrderedAt, IsLegal, LeadsTo, Agrees}
use Rattle.order_search.specs.declared.walking.Way.{Way}
use Rattle.order_search.specs.Searching.{HasNoOrder, NoneGoesOn}
use Rattle.order_search.specs.Cells.{cell_of, value_in}
use Rattle.order_search.specs.Marks.{AreMarked, HasMark, IsInTurn, Chooses}

-- whether the operation's call has an effect there with the reply that is told, if one is
abbrev pub Carries : Bool → (ℕ → ℕ) → Row → Option Reply → HandleMap → HandleMap → Type 0
Carries true hash row told v w = (reply : Reply) × (effect hash v row.call row.opens ≡ Some (reply, w)) × Agrees told reply
Carries false hash row told v w = (reply : Reply) (next : HandleMap) → effect hash v row.call row.opens ≡ Some (reply, next) → ¬ Agrees told reply

-- what the cell of the operation's call had where the ids before it lead
abbrev pub HadBefore : (ℕ → ℕ) → List Event → List ℕ → ℕ → Option ℕ → Type 0
HadBefore hash history ids id before =
    (world : HandleMap) (row : Row) → LeadsTo hash history ids world → IsRowOf history id row → IfSome (cell_of row.call) (λ cell. value_in world cell ≡ before)

-- The ids that were placed lead to this world, and none that isn't marked ended before one of them began. What begins with ids
-- that were passed, at any place, isn't legal; nor is any beginning but perhaps the whole.
pub record IsWay (hash : ℕ → ℕ) (history : List Event) (ids : List ℕ) (befores : List (Option ℕ)) (taken : List Bool) (low next : ℕ) (world : HandleMap) : Type 0 where
  pub leads : LeadsTo hash history ids world
  pub marks : AreMarked history ids taken
  pub in_turn : (i id : ℕ) → OrderedAt ids i id → IsInTurn history taken id
  pub low_marked : (id : ℕ) → id < low → HasMark taken id
  pub known : length befores ≡ length ids
  pub had : (i id : ℕ) (before : Option ℕ) → OrderedAt ids i id → slice_get befores i ≡ Some before → HadBefore hash history (take i ids) id before
  pub passed : (i id other : ℕ) → OrderedAt ids i id → other < id → NoneGoesOn hash history (take i ids ++ other ∷ [])
  pub passed_last : (other : ℕ) → other < next → NoneGoesOn hash history (ids ++ other ∷ [])
  pub unfinished : (i : ℕ) → i < length ids → ¬ IsLegal hash history (take i ids)

abbrev pub IsWayOf : (ℕ → ℕ) → List Event → Way → Type 0
IsWayOf hash history way = IsWay hash history way.ids.items way.befores.items way.taken.items way.low way.next way.world

-- the way is one, and the operations that it has placed are no legal order
abbrev pub IsOpenWay : (ℕ → ℕ) → List Event → Way → Type 0
IsOpenWay hash history way = IsWayOf hash history way × ¬ IsLegal hash history way.ids.items

-- the operation that is to be tried next; or no order is legal
abbrev pub Tries : Option ℕ → (ℕ → ℕ) → List Event → Way → Type 0
Tries None hash history way = HasNoOrder hash history
Tries (Some id) hash history way = IsOpenWay hash history way × Chooses (Some id) history way.taken.items way.next

-- whether the operation was placed; else another is to be tried
abbrev pub Places : Bool → (ℕ → ℕ) → List Event → Way → Type 0
Places true hash history way = IsWayOf hash history way
Places false hash history way = IsOpenWay hash history way

-- one operation more is placed
pub record Pushes (old new : Way) (id : ℕ) (before : Option ℕ) : Type 0 where
  pub ids : new.ids.items ≡ old.ids.items ++ id ∷ []
  pub befores : new.befores.items ≡ old.befores.items ++ before ∷ []
  pub taken : new.taken.items ≡ slice_set old.taken.items id true
  pub low : ((x : ℕ) → x < old.low → HasMark new.taken.items x) → (x : ℕ) → x < new.low → HasMark new.taken.items x
  pub next : new.next ≡ 0
  pub world : new.world ≡ old.world

-- whether the last operation was taken away, if there was one
abbrev pub GoesBack : Bool → (ℕ → ℕ) → List Event → Way → Way → Type 0
GoesBack true hash history old new = IsOpenWay hash history new
GoesBack false hash history old new = old.ids.items ≡ []
