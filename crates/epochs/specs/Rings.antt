-- Limbo as three bags in one ring.
use Rattle.std.specs.Prelude.{◌≡◌, ℕ, ◌+◌, ◌<◌, ◌≤◌, Bool, List, [], ◌∷◌, ◌++◌, map, length, slice_index}
use Rattle.slot_arena.specs.Refs.{slot_of, most_slots}
use Rattle.slot_arena.specs.declared.refs.Ref.{Ref}
use Rattle.slot_arena.specs.Tallies.{AreMarks}

pub record Bags : Type 0 where
  -- those that became zero two epochs ago, one epoch ago, and in the present epoch, each in the order in which they entered
  pub oldest : List Ref
  pub middle : List Ref
  pub present : List Ref
  -- slots are below this number
  pub size : ℕ

-- the bags, and how often a link or a flag of theirs was read or written
pub record Ringed : Type 0 where
  pub bags : Bags
  pub ticks : ℕ

-- all of them, the oldest first
abbrev pub all_of : Bags → List Ref
all_of bags = bags.oldest ++ bags.middle ++ bags.present

-- links forward and back lead from one number through these to another
abbrev pub Joined : List ℕ → List ℕ → ℕ → List ℕ → ℕ → Type 0
Joined next back from [] to = (slice_index next from ≡ to) × (slice_index back to ≡ from)
Joined next back from (n ∷ ns) to = (slice_index next from ≡ n) × (slice_index back n ≡ from) × Joined next back n ns to

-- the ring behind the first bag's beginning: the bags, with the beginnings of the other two between them
abbrev pub around : List Ref → ℕ → List Ref → ℕ → List Ref → List ℕ
around oldest second middle third present = map slot_of oldest ++ second ∷ map slot_of middle ++ third ∷ map slot_of present

pub record IsRing (next back : List ℕ) (marks : List Bool) (size first second third len : ℕ) (oldest middle present : List Ref) : Type 0 where
  pub joined : Joined next back first (around oldest second middle third present) first
  pub marked : AreMarks (map slot_of (oldest ++ middle ++ present)) marks
  pub next_size : length next ≡ size + 3
  pub back_size : length back ≡ size + 3
  pub marks_size : length marks ≡ size
  pub few : size ≤ most_slots
  -- the beginnings of the bags stand behind the slots
  pub first_behind : (size ≤ first) × (first < size + 3)
  pub second_behind : (size ≤ second) × (second < size + 3)
  pub third_behind : (size ≤ third) × (third < size + 3)
  pub first_second : first ≡ second → ⊥
  pub second_third : second ≡ third → ⊥
  pub third_first : third ≡ first → ⊥
  pub counted : len ≡ length (oldest ++ middle ++ present)

-- the links of the three beginnings lead to these
abbrev pub IsEmptyRing : List ℕ → ℕ → List ℕ → Type 0
IsEmptyRing links size ends =
    (length links ≡ size + 3) × (slice_index links size ≡ slice_index ends 0) × (slice_index links (size + 1) ≡ slice_index ends 1) × (slice_index links (size + 2) ≡ slice_index ends 2)

-- the bags one epoch later
abbrev pub turned : Bags → Bags
turned bags = record { oldest = bags.middle; middle = bags.present; present = []; size = bags.size }
