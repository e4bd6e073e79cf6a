-- The gate's rule, for an object in as many slots as the table has words.
use Rattle.std.specs.Prelude.{◌≡◌, ℕ, zero, suc, ◌+◌, ◌<◌, ◌≤◌, ◌⊎◌, ◌==◌, All, List, [], ◌∷◌, count_by, sum_by, length, slice_index}
use mathlib.Core.Option.{Option, none, some}
use lib.ListN.{get_elem?}
use Rattle.atomic_table.specs.Table.{State}
use Rattle.gate.specs.declared.rules.Part.{Part}
use Rattle.gate.specs.declared.rules.View.{View}
use Rattle.gate.specs.declared.objects.Entry.{Entry}
use Rattle.gate.specs.Logs.{Logged, IsLegal, HasFollowed}
use Rattle.gate.specs.Views.{part, crew_view, HasSlot}

-- each of these calls is one of a gate with so many seats
abbrev pub AreSeated : {C A : Type 0} → ℕ → List (Entry C A) → Type 0
AreSeated seats log = All (λ e. (1 ≤ e.seat) × (e.seat ≤ seats)) log

-- what one slot has of an object that lies in it whole
abbrev pub only_slot : {W C A : Type 0} → Logged W C A → ℕ → Option (Logged W C A)
only_slot board zero = some board
only_slot board (suc i) = none

-- a slot's word where each has the word of its own number
abbrev pub same_word : ℕ → ℕ
same_word i = i

module _ {W C A : Type 0} where
  -- the numbers from this one on, so many of them, which know this board
  abbrev pub crew : Logged W C A → ℕ → ℕ → List (Part W C A)
  crew start number zero = []
  crew start number (suc n) = part number start ∷ crew start (number + 1) n

  -- the number under which a seat is inside
  abbrev pub number_of : List (Part W C A) → ℕ
  number_of [] = 0
  number_of (p ∷ ps) = p.number

  -- how often the number stands in what a seat knows
  abbrev pub times_in : ℕ → List (Part W C A) → ℕ
  times_in number parts = count_by (λ p. p.number == number) parts

  -- among these is the number
  abbrev pub HasNumber : ℕ → List (Part W C A) → Type 0
  HasNumber number [] = ⊥
  HasNumber number (p ∷ ps) = (p.number ≡ number) ⊎ HasNumber number ps

  -- each number of a gate with so many seats is
  abbrev pub AreAll : ℕ → List (Part W C A) → Type 0
  AreAll seats parts = (number : ℕ) → 1 ≤ number → number ≤ seats → HasNumber number parts

module _ {S W C A : Type 0} where
  -- the first seat knows of all numbers
  abbrev pub first_view : Logged W C A → ℕ → View S W C A
  first_view start seats = crew_view (crew start 1 seats)

  -- how often the number stands in what all seats know
  abbrev pub times_in_all : ℕ → List (View S W C A) → ℕ
  times_in_all number views = sum_by (λ v. times_in number v.parts) views

  -- a seat has the slot
  pub record IsHeld (i : ℕ) (views : List (View S W C A)) : Type 0 where
    pub holder : ℕ
    pub view : View S W C A
    pub at : get_elem? views holder ≡ some view
    pub has : HasSlot i view.has

module _ {W C A : Type 0} (answers : ℕ → W → C → A → W → Type 0) (seats : ℕ) where
  -- the number is one of the seats' and belongs to this one, and since the seat left the board no call was its own
  pub record IsPartOf (board : Logged W C A) (owner : ℕ → ℕ) (seat : ℕ) (p : Part W C A) : Type 0 where
    pub owned : owner p.number ≡ seat
    pub low : 1 ≤ p.number
    pub high : p.number ≤ seats
    pub followed : HasFollowed answers p.number p.seen board

  abbrev pub ArePartsOf : Logged W C A → (ℕ → ℕ) → ℕ → List (Part W C A) → Type 0
  ArePartsOf board owner seat [] = Unit {0}
  ArePartsOf board owner seat (p ∷ ps) = IsPartOf board owner seat p × ArePartsOf board owner seat ps

-- `slot_of` is what each slot has of a board
module _ {S W C A : Type 0} (slot_of : Logged W C A → ℕ → Option S) where
  -- the slot is at home, with what the board has there
  abbrev pub IsHome : Logged W C A → List (Option S) → ℕ → Type 0
  IsHome board homes i = (x : S) × (get_elem? homes i ≡ some (some x)) × (slot_of board i ≡ some x)

-- `word_of` is which word says who has the slot
module _ {S W C A : Type 0} (slot_of : Logged W C A → ℕ → Option S) (word_of : ℕ → ℕ) (slots : ℕ) where
  -- the slot's word has the number, and what was found in the slot is still what the board has there
  pub record IsNoted (board : Logged W C A) (words : List ℕ) (number : ℕ) (x : ℕ × S) : Type 0 where
    pub within : x.0 < slots
    pub stands : slot_of board x.0 ≡ some x.1
    pub word : slice_index words (word_of x.0) ≡ number
    pub low : 1 ≤ number

  abbrev pub AreNoted : Logged W C A → List ℕ → ℕ → List (ℕ × S) → Type 0
  AreNoted board words number [] = Unit {0}
  AreNoted board words number (x ∷ xs) = IsNoted board words number x × AreNoted board words number xs

module _ {S W C A : Type 0} (answers : ℕ → W → C → A → W → Type 0) (slot_of : Logged W C A → ℕ → Option S) (word_of : ℕ → ℕ) (slots seats : ℕ) where
  -- There is one board. Each number belongs to one seat, stands there once, and the seat knows of it all that the board tells. A slot with the word 0 is at
  -- home, and else with the seat of the number that the word names.
  pub record IsKept (first : W) (s : State S (View S W C A)) : Type 0 where
    pub board : Logged W C A
    pub owner : ℕ → ℕ
    pub words : (i : ℕ) → i < slots → word_of i < length s.words
    pub first_is : board.first ≡ first
    pub legal : IsLegal answers board
    pub calls : AreSeated seats board.log
    pub home : (i : ℕ) → i < slots → slice_index s.words (word_of i) ≡ 0 → IsHome slot_of board s.homes i
    pub held : (i : ℕ) → i < slots → (slice_index s.words (word_of i) ≡ 0 → ⊥) → IsHeld i s.views
    pub noted : (seat : ℕ) (view : View S W C A) → get_elem? s.views seat ≡ some view → AreNoted slot_of word_of slots board s.words (number_of view.parts) view.has
    pub parts : (seat : ℕ) (view : View S W C A) → get_elem? s.views seat ≡ some view → ArePartsOf answers seats board owner seat view.parts
    pub once : (number : ℕ) → times_in_all number s.views ≤ 1
