-- A new sharded gate and its seats.
use Rattle.std.specs.Prelude.{◌≡◌, ℕ, ◌<◌, ◌≤◌, ◌^◌, List, [], All, length, map, vec_capacity}
use Rattle.std.specs.Global.{Vec}
use Rattle.atomic_table.specs.Seated.{TableId}
use Rattle.gate.specs.Seats.{Room, Seated}
use Rattle.gate.specs.Opening.{IsMade}
use Rattle.sharded_gate.specs.declared.rules.ShardTerms.{ShardTerms}
use Rattle.sharded_gate.specs.Rules.{word_of_shard}
use Rattle.sharded_gate.specs.Seats.{ShardSeated}

-- the table has a slot and its words for each shard, of which there are some, and there is room for them when they come out
pub record IsSharded {O : Type 0} (id : TableId) (key terms : ShardTerms O) (shards : ℕ) (spare : Vec O) : Type 0 where
  pub words : id.words ≡ word_of_shard shards
  pub bound : word_of_shard shards < 2 ^ 64
  pub slots : id.slots ≡ shards
  pub key_is : key ≡ terms
  pub many : length terms.first ≡ shards
  pub any : 1 ≤ shards
  pub spare_none : spare.items ≡ []
  pub room : shards ≤ vec_capacity spare

module _ {O C A : Type 0} where
  -- the seats alone
  abbrev pub seats_of : List (ShardSeated O C A) → List (Seated (List O) C A)
  seats_of seats = map (λ s. s.seat) seats

  -- The gate is before these shards, and has so many seats, which are here and count the calls about the first shard. Its table has a slot for each
  -- shard.
  pub record AreMade (shards : List O) (seats : ℕ) (gate : Room (List O)) (made : List (ShardSeated O C A)) : Type 0 where
    pub made_is : IsMade shards seats gate (seats_of made)
    pub slots : gate.id.slots ≡ length shards
    pub first : All (λ s. s.shard ≡ 0) made
