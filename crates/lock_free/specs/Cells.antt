-- Through the cells at the end of the table, and as loose ones, seats give each other free slots: what stands in a cell, or is loose, is free for no seat, and whoever takes it first has it.
use Rattle.std.specs.Prelude.{◌≡◌, ◌≢◌, ◌⊎◌, ◌<◌, ◌≤◌, ◌^◌, ◌==◌, ℕ, List, Contains, slice_index, if◌then◌else◌}
use mathlib.Core.Option.{some}
use lib.ListN.{get_elem?}
use Rattle.lock_free.specs.declared.rules.Pool.{Pool}
use Rattle.lock_free.specs.declared.rules.View.{View}
use Rattle.lock_free.specs.declared.sizes.Sizes.{Sizes}
use Rattle.lock_free.specs.Links.{link_in}
use Rattle.lock_free.specs.Places.{cell_word, count_word, IsSlot, IsTaken}

-- ---- what is free for a seat

abbrev pub pool_of : Pool → ℕ → List ℕ
pool_of pool class = if class == 0 then pool.small else (if class == 1 then pool.medium else pool.wide)

-- the slot is free for the seat
abbrev pub IsFree : View → ℕ → ℕ → Type 0
IsFree v class name = (class < 3) × Contains (pool_of v.pool class) name

-- ---- what is free for none

-- there is a cell of this number for the class
abbrev pub IsCell : ℕ → ℕ → Type 0
IsCell class number = (class < 3) × (number < 32)

-- the low half of its word names this slot, and none has the name 0; what the high half says leads to loose ones, or to none
abbrev pub Stores : Sizes → List ℕ → ℕ → ℕ → ℕ → Type 0
Stores sizes words class number name = IsCell class number × (link_in (slice_index words (cell_word sizes class number)) ≡ name) × (name ≢ 0)

-- the link from which on, as a link of its count, says that a slot is loose; what it is more leads to another slot, or to none
abbrev pub loose_link : ℕ
loose_link = 2 ^ 31

abbrev pub IsLoose : Sizes → List ℕ → ℕ → ℕ → Type 0
IsLoose sizes words class name = (class < 3) × IsSlot sizes class name × (loose_link ≤ link_in (slice_index words (count_word sizes class name)))

-- the slot stands in a cell of its class, or is loose
abbrev pub IsAside : Sizes → List ℕ → ℕ → ℕ → Type 0
IsAside sizes words class name = ((number : ℕ) × Stores sizes words class number name) ⊎ IsLoose sizes words class name

-- Each is a slot of its class that was handed out, has no node and no offer, is free for no seat, and stands in no other cell.
pub record AreCells (sizes : Sizes) (is_spare : ℕ → Type 0) (words : List ℕ) (views : List View) : Type 0 where
  pub spare : (class name : ℕ) → IsAside sizes words class name → IsTaken sizes words class name × is_spare name
  pub nobodys : (class name : ℕ) → IsAside sizes words class name → (id : ℕ) (v : View) (b : ℕ) → get_elem? views id ≡ some v → IsFree v b name → ⊥
  pub once : (b c m n name : ℕ) → Stores sizes words b m name → Stores sizes words c n name → (b ≡ c) × (m ≡ n)
  pub apart : (b c m name : ℕ) → Stores sizes words b m name → IsLoose sizes words c name → ⊥
