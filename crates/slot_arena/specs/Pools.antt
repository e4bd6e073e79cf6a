-- Where the nodes of slots stand: a cell for each slot, and rows of a pool for the entries of branches and lists.
use Rattle.std.specs.Prelude.{◌≡◌, ◌⊎◌, ⊤, ℕ, ◌+◌, ◌<◌, ◌≤◌, ◌==◌, Bool, true, false, List, [], ◌∷◌, ◌++◌, Option, Some, None, length, count_by, slice_index_or, slice_set}
use Rattle.arrayvec.specs.ArrayVec.{ArrayVec}
use Rattle.slot_arena.specs.declared.refs.Ref.{Ref}
use Rattle.slot_arena.specs.declared.nodes.Node.{Node}
use Rattle.slot_arena.specs.declared.nodes.Node.TheVariants.{Indirection, Branch, Single, Tomb, List as Listed}
use Rattle.slot_arena.specs.declared.stored_nodes.Cell.{Cell}
use Rattle.slot_arena.specs.declared.stored_nodes.Cell.TheVariants as cell
use Rattle.slot_arena.specs.Heaps.{entries_from}
use Rattle.slot_arena.specs.Times.{times}

pub record Pool : Type 0 where
  pub rows : List (ArrayVec Ref)
  -- the numbers of the rows that no cell has
  pub spare : List ℕ
  -- how many rows there may be
  pub size : ℕ

abbrev pub row_at : List (ArrayVec Ref) → ℕ → ArrayVec Ref
row_at rows row = slice_index_or rows row (entries_from [])

-- the node that a cell stands for, if it does
abbrev pub node_in : List (ArrayVec Ref) → Cell → Option Node
node_in rows cell.Free = None
node_in rows (cell.Indirection generation main) = Some (Indirection generation main)
node_in rows (cell.Branch bitmap row) = Some (Branch bitmap (row_at rows row))
node_in rows (cell.Single key value) = Some (Single key value)
node_in rows (cell.Tomb single) = Some (Tomb single)
node_in rows (cell.List row) = Some (Listed (row_at rows row))

abbrev pub with_main_cell : Ref → Cell → Cell
with_main_cell m (cell.Indirection generation main) = cell.Indirection generation m
with_main_cell m other = other

-- the cell has this row
abbrev pub has : ℕ → Cell → Bool
has row cell.Free = false
has row (cell.Indirection generation main) = false
has row (cell.Branch bitmap own) = own == row
has row (cell.Single key value) = false
has row (cell.Tomb single) = false
has row (cell.List own) = own == row

-- the cell has a row
abbrev pub has_row : Cell → Bool
has_row cell.Free = false
has_row (cell.Indirection generation main) = false
has_row (cell.Branch bitmap own) = true
has_row (cell.Single key value) = false
has_row (cell.Tomb single) = false
has_row (cell.List own) = true

-- the cell's row is there, if it has one
abbrev pub RowStands : Cell → List (ArrayVec Ref) → Type 0
RowStands own rows = (row : ℕ) → has row own ≡ true → row < length rows

-- each row is that of one cell, or spare
pub record HasRows (cells : List Cell) (pool : Pool) : Type 0 where
  pub once : (row : ℕ) → row < length pool.rows → count_by (has row) cells + times row pool.spare ≡ 1
  pub never : (row : ℕ) → length pool.rows ≤ row → count_by (has row) cells + times row pool.spare ≡ 0
  pub all : count_by has_row cells + length pool.spare ≡ length pool.rows
  pub room : length cells ≤ pool.size
  pub fits : length pool.rows ≤ pool.size

-- a row is spare, or there is room for one more
abbrev pub CanPut : Pool → Type 0
CanPut pool = ((row : ℕ) → 0 < times row pool.spare → row < length pool.rows) × (length pool.rows < pool.size + length pool.spare)

-- the entries stand in a row that was spare, or behind all rows where none was
abbrev pub IsPut : Pool → ArrayVec Ref → ℕ → Pool → Type 0
IsPut before entries row after =
    (after.size ≡ before.size)
    × (((before.spare ≡ after.spare ++ row ∷ []) × (after.rows ≡ slice_set before.rows row entries))
    ⊎ ((before.spare ≡ []) × (after.spare ≡ []) × (row ≡ length before.rows) × (after.rows ≡ before.rows ++ entries ∷ [])))

-- the cell stands for the node, with a row where that has entries
abbrev pub IsPlaced : Pool → Node → Cell → Pool → Type 0
IsPlaced before (Indirection generation main) placed after = (placed ≡ cell.Indirection generation main) × (after ≡ before)
IsPlaced before (Branch bitmap entries) placed after = (row : ℕ) × (placed ≡ cell.Branch bitmap row) × IsPut before entries row after
IsPlaced before (Single key value) placed after = (placed ≡ cell.Single key value) × (after ≡ before)
IsPlaced before (Tomb single) placed after = (placed ≡ cell.Tomb single) × (after ≡ before)
IsPlaced before (Listed singles) placed after = (row : ℕ) × (placed ≡ cell.List row) × IsPut before singles row after

-- the pool in which the cell's row is spare, if it has one
abbrev pub given_back : Cell → Pool → Pool
given_back cell.Free pool = pool
given_back (cell.Indirection generation main) pool = pool
given_back (cell.Branch bitmap row) pool = record pool { spare = pool.spare ++ row ∷ [] }
given_back (cell.Single key value) pool = pool
given_back (cell.Tomb single) pool = pool
given_back (cell.List row) pool = record pool { spare = pool.spare ++ row ∷ [] }

-- then there is room for its number
abbrev pub CanGiveBack : Cell → Pool → Type 0
CanGiveBack cell.Free pool = ⊤
CanGiveBack (cell.Indirection generation main) pool = ⊤
CanGiveBack (cell.Branch bitmap row) pool = length pool.spare < pool.size
CanGiveBack (cell.Single key value) pool = ⊤
CanGiveBack (cell.Tomb single) pool = ⊤
CanGiveBack (cell.List row) pool = length pool.spare < pool.size
