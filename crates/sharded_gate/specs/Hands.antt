-- All shards in the hand of one seat.
use Rattle.std.specs.Prelude.{◌≡◌, ℕ, zero, suc, List, [], ◌∷◌, ◌++◌, map, length}
use Rattle.atomic_table.specs.Seated.{TableId}
use Rattle.atomic_table.specs.Table.{turned}
use Rattle.gate.specs.declared.objects.Entry.{Entry}
use Rattle.sharded_gate.specs.Shards.{LoggedShard, with_entry}
use Rattle.gate.specs.Logs.{entry}
use Rattle.sharded_gate.specs.Rules.{Knows, ShardPlace}

-- these are the slots from this one on
abbrev pub AreFrom : {S : Type 0} → ℕ → List (ℕ × S) → Type 0
AreFrom i [] = Unit {0}
AreFrom i (x ∷ xs) = (x.0 ≡ i) × AreFrom (suc i) xs

-- the first goes behind the others, so many times
abbrev pub turned_by : {S : Type 0} → ℕ → List (ℕ × S) → List (ℕ × S)
turned_by zero xs = xs
turned_by (suc n) xs = turned_by n (turned xs)

-- a seat with all shards: of which table it is, what it knows, and the shards
pub record Hand (O C A : Type 0) : Type 0 where
  pub id : TableId
  pub view : Knows O C A
  pub slots : List (ℕ × LoggedShard O C A)

-- what a visit leaves as it is
abbrev pub HandRest : Type 0 → Type 0 → Type 0 → Type 0
HandRest O C A = TableId × (Knows O C A × List (List (Entry C A)))

module _ {O C A : Type 0} where
  abbrev pub objects_of : List (ℕ × LoggedShard O C A) → List O
  objects_of slots = map (λ x. x.1.object) slots

  abbrev pub logs_of : List (ℕ × LoggedShard O C A) → List (List (Entry C A))
  logs_of slots = map (λ x. x.1.log) slots

  abbrev pub rest_of_hand : Hand O C A → HandRest O C A
  rest_of_hand hand = (hand.id, (hand.view, logs_of hand.slots))

  -- the entry of a call is in the log of each of the first shards, of so many
  abbrev pub noted_first : ℕ → Entry C A → List (ℕ × LoggedShard O C A) → List (ℕ × LoggedShard O C A)
  noted_first zero told slots = slots
  noted_first (suc n) told [] = []
  noted_first (suc n) told (x ∷ xs) = (x.0, with_entry x.1 told) ∷ noted_first n told xs

  -- the seat has all shards, of which there are so many, as it found them
  pub record HasAll (shards : ℕ) (before after : ShardPlace O C A) : Type 0 where
    pub slots : List (ℕ × LoggedShard O C A)
    pub are : AreFrom 0 slots
    pub many : length slots ≡ shards
    pub place : after ≡ (record { has = slots; parts = before.0.parts }, slots)

  -- each of the shards has the entry of a call more in its log
  abbrev pub AreTold : Entry C A → List (ℕ × LoggedShard O C A) → List (ℕ × LoggedShard O C A) → Type 0
  AreTold told [] [] = Unit {0}
  AreTold told [] (y ∷ ys) = ⊥
  AreTold told (x ∷ xs) [] = ⊥
  AreTold told (x ∷ xs) (y ∷ ys) = (x.0 ≡ y.0) × (y.1.log ≡ x.1.log ++ told ∷ []) × AreTold told xs ys

module _ {O C A : Type 0} (answers : ℕ → List O → C → A → List O → Type 0) where
  -- the call has been made on all shards, and its entry stands in the log of each
  pub record HasPerformed (number : ℕ) (call : C) (answer : A) (before after : ShardPlace O C A) : Type 0 where
    pub view : after.0 ≡ before.0
    pub told : AreTold (entry number call answer) before.1 after.1
    pub answered : answers number (objects_of before.1) call answer (objects_of after.1)
