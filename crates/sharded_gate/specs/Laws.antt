-- A law of logs of an object in shards, whatever it answers.
use Rattle.std.specs.Prelude.{◌≡◌, ℕ, ◌-◌, ◌<◌, ◌≤◌, List, Option, Some, IsTrue, length, slice_get}
use Rattle.gate.specs.Logs.{Logged, entry, LogGoesOn}
use Rattle.gate.specs.Seats.{Seated}
use Rattle.gate.specs.Calls.{IsCalled}
use Rattle.sharded_gate.specs.Shards.{is_about, calls_about}

module _ {O C A : Type 0} (answers : ℕ → List O → C → A → List O → Type 0) (about : ℕ → C → Option ℕ) where
  -- Where one seat calls about a shard, and another one that knows of so many calls about this shard calls then, about whichever, each log that goes on
  -- from both has the two calls at their numbers in the whole log, the first before the second.
  abbrev pub ToldCallsOfAShardStandBefore : Type 0
  ToldCallsOfAShardStandBefore = (shards shard : ℕ) (one told : Seated (List O) C A) (call : C) (answer : A) (other later : Seated (List O) C A) (next : C) (reply : A)
      (last : Logged (List O) C A) → IsCalled answers one call answer told → IsTrue (is_about (about shards call) shard) →
      length (calls_about (about shards) shard told.seen.log) ≤ length (calls_about (about shards) shard other.seen.log) → IsCalled answers other next reply later →
      LogGoesOn told.seen last → LogGoesOn later.seen last →
      (length told.seen.log < length later.seen.log)
      × (slice_get last.log (length told.seen.log - 1) ≡ Some (entry one.number call answer))
      × (slice_get last.log (length later.seen.log - 1) ≡ Some (entry other.number next reply))
