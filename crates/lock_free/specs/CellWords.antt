-- A seat puts a slot that is free for it into a cell, or fetches one from there; or makes it loose, or takes a loose one up.
use Rattle.history.specs.declared.calls.Call.{Call}
use Rattle.std.specs.Prelude.{◌≡◌, ◌≢◌, ◌<◌, ◌++◌, ℕ, List, [], ◌∷◌, Bool, true, false, Option, Some, None}
use Rattle.atomic_table.specs.Table.{Me, Step}
use Rattle.lock_free.specs.declared.cells.Stored.{Stored}
use Rattle.lock_free.specs.declared.rules.View.{View}
use Rattle.lock_free.specs.Cells.{pool_of, IsCell, IsFree}
use Rattle.lock_free.specs.Links.{link_in}
use Rattle.lock_free.specs.Limbos.{HasReclaimedSome}
use Rattle.lock_free.specs.Making.{with_slots}
use Rattle.lock_free.specs.Places.{cell_word, count_word, IsSlot}
use Rattle.lock_free.specs.Storing.{with_free}

-- ---- one is put into a cell

-- these slots of the class are free for the seat, which forgets what it has written in any
abbrev pub having_put : View → ℕ → List ℕ → View
having_put v class rest = record v { pool = with_slots v.pool class rest; drafts = [] }

-- by an exchange of the cell's word for one that names the last slot of the class
abbrev pub has_put : Step Call → Me Call View → ℕ → Me Call View → Type 0
has_put step before found after =
    (found ≡ step.first → (class number : ℕ) (rest : List ℕ) → IsCell class number → step.word ≡ cell_word before.0.sizes class number →
    pool_of before.0.pool class ≡ rest ++ link_in step.second ∷ [] → after ≡ (having_put before.0 class rest, before.1))
    × (found ≢ step.first → after ≡ before)

-- the last slot of the class stands in a cell, or nothing has changed
abbrev pub HasPut : View → ℕ → Bool → View → Type 0
HasPut before class true after = (rest : List ℕ) × (name : ℕ) × (pool_of before.pool class ≡ rest ++ name ∷ []) × (after ≡ having_put before class rest)
HasPut before class false after = after ≡ before

-- ---- one is fetched from a cell

-- by an exchange of the cell's word for 0
abbrev pub has_fetched : Step Call → Me Call View → ℕ → Me Call View → Type 0
has_fetched step before found after =
    (found ≡ step.first → (class number : ℕ) → IsCell class number → step.word ≡ cell_word before.0.sizes class number →
    IsSlot before.0.sizes class (link_in found) × (after ≡ (with_free before.0 class (link_in found), before.1)))
    × (found ≢ step.first → after ≡ before)

-- a slot more is free for the seat, or nothing has changed
abbrev pub HasFetched : View → ℕ → Option Stored → View → Type 0
HasFetched before class None after = after ≡ before
HasFetched before class (Some stored) after = after ≡ with_free before class stored.slot

-- ---- one is loose

-- by an exchange of its count's word, of which nothing but the link is another one
abbrev pub has_loosened : Step Call → Me Call View → ℕ → Me Call View → Type 0
has_loosened step before found after =
    (found ≡ step.first → (class name : ℕ) (rest : List ℕ) → class < 3 → IsSlot before.0.sizes class name → step.word ≡ count_word before.0.sizes class name →
    pool_of before.0.pool class ≡ rest ++ name ∷ [] → after ≡ (having_put before.0 class rest, before.1))
    × (found ≢ step.first → after ≡ before)

-- ---- one is taken up

abbrev pub has_taken_up : Step Call → Me Call View → ℕ → Me Call View → Type 0
has_taken_up step before found after =
    (found ≡ step.first → (class name : ℕ) → class < 3 → IsSlot before.0.sizes class name → step.word ≡ count_word before.0.sizes class name → after ≡ (with_free before.0 class name, before.1))
    × (found ≢ step.first → after ≡ before)

-- this slot is free for the seat, and led on to that one; or nothing has changed
abbrev pub HasTakenUp : View → ℕ → ℕ → Option ℕ → View → Type 0
HasTakenUp before class name None after = after ≡ before
HasTakenUp before class name (Some next) after = after ≡ with_free before class name

-- ---- some are

-- some slots that were free for the seat aren't
pub record HasGivenSome (before after : View) : Type 0 where
  pub is : after ≡ record before { pool = after.pool; drafts = after.drafts }
  pub free : (class name : ℕ) → IsFree after class name → IsFree before class name

-- where none was free slots of the class may be free, and nothing else has changed
pub record HasFetchedSome (before : View) (class : ℕ) (after : View) : Type 0 where
  pub is : after ≡ record before { pool = after.pool }
  pub free : (b name : ℕ) → IsFree before b name → IsFree after b name
  pub none : pool_of after.pool class ≡ [] → after ≡ before

-- some of what the seat has retired may be free for it again, and some of what is free may stand in cells
abbrev pub HasTidied : View → View → Type 0
HasTidied before after = (mid : View) × HasReclaimedSome before mid × HasGivenSome mid after
