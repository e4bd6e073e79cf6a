-- The cells of a world: the values of keys by handles. A call on a key changes one of them at most, and some calls none.
use Rattle.std.specs.Prelude.{◌≡◌, ℕ, Bool, true, false, Option, Some, None, option_and_then, IfSome}
use Rattle.std.specs.FinMap as map
use Rattle.order_search.specs.Vocabulary.{Access, Call, Get, Put, PutIfAbsent, Replace, ReplaceIf, Remove, RemoveIf, Entries, Count, HandleMap}
use Rattle.order_search.specs.declared.cells.Cell.{Cell}

-- the cell of a call on one key
abbrev pub cell_of : Call → Option Cell
cell_of (Get h k) = Some (record { handle = h; key = k })
cell_of (Put h k v) = Some (record { handle = h; key = k })
cell_of (PutIfAbsent h k v) = Some (record { handle = h; key = k })
cell_of (Replace h k v) = Some (record { handle = h; key = k })
cell_of (ReplaceIf h k a b) = Some (record { handle = h; key = k })
cell_of (Remove h k) = Some (record { handle = h; key = k })
cell_of (RemoveIf h k v) = Some (record { handle = h; key = k })
cell_of call = None

-- whether the map of a handle that is there may be changed
abbrev pub access_at : HandleMap → ℕ → Option Access
access_at world h = option_and_then (λ s. Some s.access) (map.get world h)

-- the key's value in the map of a handle that is there
abbrev pub value_at : HandleMap → ℕ → ℕ → Option ℕ
value_at world h k = option_and_then (λ s. map.get s.pairs k) (map.get world h)

abbrev pub value_in : HandleMap → Cell → Option ℕ
value_in world cell = value_at world cell.handle cell.key

-- The worlds differ in this cell alone, if at all.
pub record DifferIn (cell : Cell) (v w : HandleMap) : Type 0 where
  pub handles : (h : ℕ) → access_at w h ≡ access_at v h
  pub values : (h k : ℕ) → ¬ ((h ≡ cell.handle) × (k ≡ cell.key)) → value_at w h k ≡ value_at v h k

-- the call leaves the world, whatever it answers
abbrev pub reads_only : Call → Bool
reads_only (Get h k) = true
reads_only (Entries h) = true
reads_only (Count h) = true
reads_only call = false

-- The call led from one world to the other so that it can be taken back: the world is the same where the call only reads, and of a
-- call on a key it is known what its cell had.
pub record CanGoBack (call : Call) (before : Option ℕ) (last now : HandleMap) : Type 0 where
  pub same : reads_only call ≡ true → now ≡ last
  pub cell : IfSome (cell_of call) (λ cell. DifferIn cell last now × (value_in last cell ≡ before))
