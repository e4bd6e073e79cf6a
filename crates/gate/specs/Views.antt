-- What a seat at the table knows, and what each step on a word makes of it. A board is the whole object W with its log; S is what a slot holds of it.
use Rattle.std.specs.Prelude.{◌≡◌, ℕ, ◌⊎◌, List, [], ◌∷◌, ◌++◌, take, drop}
use mathlib.Core.Option.{Option, some}
use Rattle.atomic_table.specs.Table.{Me, Step, rest}
use Rattle.gate.specs.declared.rules.Part.{Part}
use Rattle.gate.specs.declared.rules.View.{View}
use Rattle.gate.specs.Logs.{Logged, IsLegal, HasFollowed, HasWorked}

-- a seat at the table: what it knows, and the slots that it has
abbrev pub Place : Type 0 → Type 0 → Type 0 → Type 0 → Type 0
Place S W C A = Me S (View S W C A)

-- the slot is among these
abbrev pub HasSlot : {S : Type 0} → ℕ → List (ℕ × S) → Type 0
HasSlot i [] = ⊥
HasSlot i (x ∷ xs) = (x.0 ≡ i) ⊎ HasSlot i xs

-- these are the same slots
abbrev pub AreSameSlots : {S : Type 0} → List (ℕ × S) → List (ℕ × S) → Type 0
AreSameSlots [] [] = Unit {0}
AreSameSlots [] (y ∷ ys) = ⊥
AreSameSlots (x ∷ xs) [] = ⊥
AreSameSlots (x ∷ xs) (y ∷ ys) = (x.0 ≡ y.0) × AreSameSlots xs ys

module _ {W C A : Type 0} where
  abbrev pub part : ℕ → Logged W C A → Part W C A
  part number seen = record { number = number; seen = seen }

  -- what a seat knows once it has seen this board
  abbrev pub seeing : Logged W C A → List (Part W C A) → List (Part W C A)
  seeing board [] = []
  seeing board (p ∷ ps) = part p.number board ∷ seeing board ps

module _ {S W C A : Type 0} where
  -- a seat that is outside
  abbrev pub crew_view : List (Part W C A) → View S W C A
  crew_view parts = record { has = []; parts = parts }

  -- the seat of one number, outside, and with slots that it found so
  abbrev pub outside : ℕ → Logged W C A → View S W C A
  outside number seen = crew_view (part number seen ∷ [])

  abbrev pub holding : ℕ → Logged W C A → List (ℕ × S) → View S W C A
  holding number seen found = record { has = found; parts = part number seen ∷ [] }

  -- the seat has this number alone
  abbrev pub IsOf : ℕ → Place S W C A → Type 0
  IsOf number me = (seen : Logged W C A) × (found : List (ℕ × S)) × (me.0 ≡ holding number seen found)

  -- ---- taking a slot

  -- the seat has this slot too, and has noted what it found there
  abbrev pub HasTaken : ℕ → Place S W C A → Place S W C A → Type 0
  HasTaken i before after = (x : S) × (after ≡ (record { has = (i, x) ∷ before.0.has; parts = before.0.parts }, (i, x) ∷ before.1))

  -- where the slot's word was 0 the seat has taken it, else nothing has changed
  abbrev pub HasTried : ℕ → Place S W C A → ℕ → Place S W C A → Type 0
  HasTried i before found after = (found ≡ 0 → HasTaken i before after) × ((found ≡ 0 → ⊥) → after ≡ before)

  -- `slot_at` is which slot has the word
  abbrev pub has_entered : (ℕ → ℕ) → Step S → Place S W C A → ℕ → Place S W C A → Type 0
  has_entered slot_at step before found after = HasTried (slot_at step.word) before found after

  -- ---- giving a slot back in which nothing is new

  abbrev pub released : Place S W C A → Place S W C A
  released me = (record { has = rest me.0.has; parts = me.0.parts }, rest me.1)

  abbrev pub has_released : Step S → Place S W C A → ℕ → Place S W C A → Type 0
  has_released step before stored after = after ≡ released before

  -- ---- crews

  -- the seat has no number
  abbrev pub has_sat : Step S → Place S W C A → ℕ → Place S W C A → Type 0
  has_sat step before found after = after ≡ (crew_view [], [])

  abbrev pub first_of : View S W C A → View S W C A
  first_of view = crew_view (take 1 view.parts)

  abbrev pub rest_of : View S W C A → View S W C A
  rest_of view = crew_view (drop 1 view.parts)

  abbrev pub gathered : View S W C A → View S W C A → View S W C A
  gathered view other = crew_view (view.parts ++ other.parts)

-- ---- giving the first slot back

module _ {W C A : Type 0} (answers : ℕ → W → C → A → W → Type 0) where
  -- the board goes on from all that these have seen, without calls of their numbers
  abbrev pub HaveFollowed : Logged W C A → List (Part W C A) → Type 0
  HaveFollowed board [] = Unit {0}
  HaveFollowed board (p ∷ ps) = HasFollowed answers p.number p.seen board × HaveFollowed board ps

  -- it has become the other by one call of each of these at most
  abbrev pub HaveWorked : Logged W C A → Logged W C A → List (Part W C A) → Type 0
  HaveWorked board now [] = Unit {0}
  HaveWorked board now (p ∷ ps) = HasWorked answers p.number board now × HaveWorked board now ps

-- `slot_of` is what each slot has of a board
module _ {S W C A : Type 0} (slot_of : Logged W C A → ℕ → Option S) where
  -- each of these slots is as the board says
  abbrev pub Stand : Logged W C A → List (ℕ × S) → Type 0
  Stand board [] = Unit {0}
  Stand board (x ∷ xs) = (slot_of board x.0 ≡ some x.1) × Stand board xs

module _ {S W C A : Type 0} (answers : ℕ → W → C → A → W → Type 0) (slot_of : Logged W C A → ℕ → Option S) where
  -- The one board has the slots that the seat found, the other one has them as they are now, and comes of the first by one call of the seat at most. No
  -- other slot has changed.
  pub record IsCommit (number : ℕ) (slots : List (ℕ × S)) (board now : Logged W C A) : Type 0 where
    pub worked : HasWorked answers number board now
    pub stand : Stand slot_of now slots
    pub others : (j : ℕ) → (HasSlot j slots → ⊥) → slot_of now j ≡ slot_of board j

  -- in whichever board the seat found the one slots, there is one that comes of it with the others
  abbrev pub Commits : ℕ → List (ℕ × S) → List (ℕ × S) → Type 0
  Commits number found slots = (board : Logged W C A) → Stand slot_of board found → (now : Logged W C A) × IsCommit number slots board now

  -- The seat found a board that is legal, had gone on without it, and has the slots that it noted; and left one with the slots as it has them now, by
  -- one call of its own at most. This it has seen.
  pub record HasLeft (before after : Place S W C A) : Type 0 where
    pub board : Logged W C A
    pub now : Logged W C A
    pub followed : HaveFollowed answers board before.0.parts
    pub legal : IsLegal answers board
    pub found : Stand slot_of board before.0.has
    pub worked : HaveWorked answers board now before.0.parts
    pub left : Stand slot_of now before.1
    pub after_is : after ≡ (record { has = rest before.1; parts = seeing now before.0.parts }, rest before.1)

  abbrev pub has_left : Step S → Place S W C A → ℕ → Place S W C A → Type 0
  has_left step before stored after = HasLeft before after

  -- The seat found such a board, and has seen it. In its slots there is nothing new.
  pub record HasLooked (before after : Place S W C A) : Type 0 where
    pub board : Logged W C A
    pub followed : HaveFollowed answers board before.0.parts
    pub legal : IsLegal answers board
    pub found : Stand slot_of board before.0.has
    pub after_is : after ≡ (record { has = rest before.0.has; parts = seeing board before.0.parts }, rest before.1)
