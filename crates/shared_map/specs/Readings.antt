-- What is told of a handle's map that is read.
use Rattle.std.specs.Prelude.{◌≡◌, ◌⊎◌, ℕ, ◌%◌, ◌==◌, List, Option, Result, Err, IsOk}
use Rattle.std.specs.FinMap as map
use Rattle.std.specs.FinMap.Entries.{where_key}
use Rattle.std.specs.Ordering.{nat_cmp}
use Rattle.shared_map.specs.Vocabulary.{HashKind, HandleState, KeyMap}
use Rattle.ctrie_map.specs.declared.errors.MapError.{MapError}
use Rattle.ctrie_map.specs.declared.errors.MapError.TheVariants.{Memory}
use Rattle.ctrie_map.specs.Reading.{IsOneOf, ReadsOf, read_of}
use Rattle.shared_map.specs.Beneath.proof_core.specs.Reading.{next_of}
use Rattle.shared_map.specs.Beneath.proof_core.specs.Scanning.{scanned}
use Rattle.shared_map.specs.declared.asks.Answer.TheVariants as answer
use Rattle.shared_map.specs.Asks.{Told, place_of, told_as}

-- its next entries behind this key, so many at most; or memory was wanting for these
abbrev pub IsPart : Option ℕ → ℕ → Option HandleState → Told → Type 0
IsPart cursor room shown told =
    let part = read_of (λ m. next_of cursor room (map.entries m)) shown in (told ≡ told_as answer.Part part) ⊎ ((told ≡ Err Memory) × IsOk part)

-- its entries that lie in this shard, of so many
abbrev pub entries_in : HashKind → ℕ → ℕ → KeyMap → List (ℕ × ℕ)
entries_in hash shards shard m = where_key nat_cmp (λ key. place_of hash shards key == shard) (map.entries m)

-- the next of these, in the order of a scan, behind this key, so many at most; or memory was wanting for these
abbrev pub IsScan : HashKind → ℕ → ℕ → Option ℕ → ℕ → Option HandleState → Told → Type 0
IsScan hash shards shard cursor room shown told =
    let part = read_of (λ m. scanned hash cursor room (entries_in hash shards (shard % shards) m)) shown in
    (told ≡ told_as answer.Part part) ⊎ ((told ≡ Err Memory) × IsOk part)

-- one of its keys with its value, and none exactly where it has none
abbrev pub IsFirst : Option HandleState → Told → Type 0
IsFirst shown told = (first : Result (Option (ℕ × ℕ)) MapError) × (told ≡ told_as answer.First first) × ReadsOf (read_of (λ m. m) shown) IsOneOf first
