-- The table at the start, and the shards that come out at the end.
use Rattle.std.specs.Prelude.{◌≡◌, ℕ, zero, suc, ◌+◌, ◌<◌, ◌≤◌, All, List, [], ◌∷◌, ◌++◌, map, replicate, take, length, Option, slice_index}
use Rattle.std.proofs.Common.{refl, sym, ap, ◌∙◌, arith}
use Rattle.std.proofs.lemmas.List.{map-append, length-map}
use mathlib.Core.Option as table
use lib.ListN.{get_elem?}
use Rattle.atomic_table.proofs.Lists.{at_map}
use Rattle.gate.specs.Logs.{Logged, fresh}
use Rattle.gate.proofs.Crews.{AreSlotsOf}
use Rattle.sharded_gate.specs.Shards.{LoggedShard, fresh_shard, shard_of}
use Rattle.sharded_gate.specs.Seats.{ShardSeated}
use Rattle.sharded_gate.specs.Opening.{seats_of}
use Rattle.sharded_gate.proofs.Shares.{of_shard, to_shard, same_list, in_range}

pub all_zero : (n i : ℕ) → slice_index (replicate n 0) i ≡ 0
all_zero zero i = refl
all_zero (suc n) zero = refl
all_zero (suc n) (suc i) = all_zero n i

there : {X : Type 0} (xs : List X) (i : ℕ) → i < length xs → (x : X) × (get_elem? xs i ≡ table.some x)
there [] i low = absurd (omega (arith, low))
there (x ∷ xs) zero low = (x, refl)
there (x ∷ xs) (suc i) low = there xs i (omega (arith, low))

module _ {O C A : Type 0} (about : C → Option ℕ) (first : List O) where
  pub start_slots : AreSlotsOf {S = LoggedShard O C A} {W = List O} {C = C} {A = A} (shard_of (length first) about) (length first) (fresh first) (map (λ o. fresh_shard o) first)
  start_slots i within =
      let h = there first i within in (
        fresh_shard h.0,
        at_map (λ o. fresh_shard o) first i h.0 h.1,
        to_shard (length first) about (fresh first) i (fresh_shard h.0) (record { many = refl; object = h.1; log = refl }),
      )

module _ {O C A : Type 0} (about : C → Option ℕ) (shards : ℕ) (board : Logged (List O) C A) (xs : List (LoggedShard O C A)) where
  -- the whole is the shards that are in the slots
  pub whole_is : 1 ≤ shards → length xs ≡ shards → AreSlotsOf (shard_of shards about) shards board xs → board.object ≡ map (λ s. s.object) xs
  whole_is some many are =
      let h = are 0 (omega (arith, some)) in
      let long = (of_shard shards about board 0 h.0 h.2).many in
      same_list board.object (map (λ s. s.object) xs) (long ∙ sym many ∙ sym (length-map xs (λ (s : LoggedShard O C A). s.object))) (λ i o at.
      let within : i < shards = omega (arith, many, length-map xs (λ (s : LoggedShard O C A). s.object), in_range (map (λ s. s.object) xs) i o at) in
      let g = are i within in
      (of_shard shards about board i g.0 g.2).object ∙ sym (at_map (λ (s : LoggedShard O C A). s.object) xs i g.0 g.1) ∙ at)

module _ {O C A : Type 0} where
  pub seats_push : (seats : List (ShardSeated O C A)) (s : ShardSeated O C A) → seats_of (seats ++ s ∷ []) ≡ seats_of seats ++ s.seat ∷ []
  seats_push seats s = map-append (λ (x : ShardSeated O C A). x.seat) seats (s ∷ [])

-- one element more
pub take_one_more : {X : Type 0} (xs : List X) (n : ℕ) (x : X) → get_elem? xs n ≡ table.some x → take (n + 1) xs ≡ take n xs ++ x ∷ []
take_one_more [] n x at = absurd (table.some-ne-none x (sym at))
take_one_more (y ∷ xs) zero x at = ap (λ z. z ∷ []) (table.some-injective y x at)
take_one_more (y ∷ xs) (suc n) x at =
    let next : suc (n + 1) ≡ suc n + 1 = omega arith in
    ap (λ m. take m (y ∷ xs)) (sym next) ∙ ap (λ ys. y ∷ ys) (take_one_more xs n x at)

-- what holds of each of the images holds of each
pub all_from_map : {X Y : Type 0} (P : Y → Type 0) (f : X → Y) (xs : List X) → All P (map f xs) → All (λ x. P (f x)) xs
all_from_map P f [] all k d low = absurd (omega (arith, low))
all_from_map P f (x ∷ xs) all zero d low = all zero (f d) (omega arith)
all_from_map P f (x ∷ xs) all (suc k) d low = all_from_map P f xs (λ j e small. all (suc j) e (omega (arith, small))) k d (omega (arith, low))

-- the objects of fresh shards
pub objects_back : {O : Type 0} (C A : Type 0) (os : List O) → map (λ (s : LoggedShard O C A). s.object) (map (λ o. fresh_shard o) os) ≡ os
objects_back C A [] = refl
objects_back C A (o ∷ os) = ap (λ xs. o ∷ xs) (objects_back C A os)
