-- What contracts see of a seat at a sharded gate.
use Rattle.std.specs.Prelude.{◌≡◌, ℕ, ◌≤◌, List, [], ◌∷◌, Option, length}
use Rattle.gate.specs.declared.rules.Part.{Part}
use Rattle.gate.specs.Logs.{Logged, fresh, saturated}
use Rattle.gate.specs.Views.{outside}
use Rattle.gate.specs.Seats.{Seated}
use Rattle.sharded_gate.specs.Rules.{Knows}
use Rattle.sharded_gate.specs.Shards.{calls_about}

-- the seat, with the whole as it saw it last, and the shard whose calls it has counted
pub record ShardSeated (O C A : Type 0) : Type 0 where
  pub seat : Seated (List O) C A
  pub shard : ℕ

module _ {O C A : Type 0} where
  abbrev pub seen_of : List (Part (List O) C A) → Logged (List O) C A
  seen_of [] = fresh []
  seen_of (p ∷ ps) = p.seen

  -- the whole as the first of these saw it
  abbrev pub seen_in : List (Knows O C A) → Logged (List O) C A
  seen_in [] = fresh []
  seen_in (view ∷ views) = seen_of view.parts

  -- the seat is outside with its number, and has counted the calls about this shard that it has seen
  pub record IsShardSeated (about : C → Option ℕ) (views : List (Knows O C A)) (number shard last : ℕ) : Type 0 where
    pub seen : Logged (List O) C A
    pub place : views ≡ outside number seen ∷ []
    pub low : 1 ≤ number
    pub counted : last ≡ saturated (length (calls_about about shard seen.log))
