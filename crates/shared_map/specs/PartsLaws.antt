-- What the parts of a frozen handle's list come to, whatever is called between them.
use Rattle.std.specs.Prelude.{◌≡◌, ◌+◌, ◌%◌, ◌<◌, ◌≤◌, ◌++◌, ℕ, List, ◌∷◌, length, flat_map, Option, Some, None, Ok}
use Rattle.std.specs.FinMap as map
use Rattle.std.specs.List.{range_with_len}
use Rattle.shared_map.specs.Vocabulary.{HashKind, Freeze, Opened, map_of, HandleMap, HandleState, KeyMap, by_key}
use Rattle.gate.specs.Logs.{IsLegal}
use Rattle.shared_map.specs.declared.asks.Answer.TheVariants as answer
use Rattle.shared_map.specs.declared.asks.Ask.TheVariants.{Do}
use Rattle.shared_map.specs.Answering.{MapAnswers}
use Rattle.shared_map.specs.Asks.{MapEntry, asking}
use Rattle.shared_map.specs.Laws.{MapLog}
use Rattle.shared_map.specs.Parts.{AreListedFrom, IsFrozen, IsNeverClosed, PartsListAll, ScansListAll, freezing, last_key}
use Rattle.shared_map.specs.Readings.{IsPart, IsScan, entries_in}
use Rattle.shared_map.specs.Replaying.{IsShown, Replays}
use Rattle.shared_map.specs.Shards.{AreShards, world_of_all}

-- ---- a frozen handle

-- A freeze that is done leaves the copy frozen, with the map that the handle has.
abbrev pub FreezesCopyTheMap : Type 0
FreezesCopyTheMap =
    (hash : HashKind) (shards : ℕ) (before after : HandleMap) (handle copy : ℕ) →
    IsShown hash shards before (asking hash (Do (Freeze handle))) (Ok (answer.Reply (Opened copy))) after →
    (m : KeyMap) × (map_of before handle ≡ Some m) × IsFrozen after copy m

-- A frozen handle stays frozen, with its map, as long as no call closes it.
abbrev pub FrozenHandlesStay : Type 0
FrozenHandlesStay =
    (hash : HashKind) (shards : ℕ) (before after : HandleMap) (log : List MapEntry) (handle : ℕ) (m : KeyMap) →
    Replays hash shards before log after → IsFrozen before handle m → IsNeverClosed handle log → IsFrozen after handle m

-- ---- parts of one map

-- What a scan of a shard tells, and what one behind its last key does, one scan with room for both tells.
abbrev pub ScansJoin : Type 0
ScansJoin =
    (hash : HashKind) (shards shard : ℕ) (cursor : Option ℕ) (room more : ℕ) (shown : Option HandleState) (part rest : List (ℕ × ℕ)) →
    IsScan hash shards shard cursor room shown (Ok (answer.Part part)) → IsScan hash shards shard (last_key cursor part) more shown (Ok (answer.Part rest)) →
    IsScan hash shards shard cursor (room + more) shown (Ok (answer.Part (part ++ rest)))

-- Scans of a shard to its end list each of its entries once.
abbrev pub ScansListAShard : Type 0
ScansListAShard =
    (hash : HashKind) (shards shard : ℕ) (shown : HandleState) (listed : List (ℕ × ℕ)) →
    AreListedFrom (λ cursor room told. IsScan hash shards shard cursor room (Some shown) told) None listed → by_key listed ≡ entries_in hash shards (shard % shards) shown.pairs

-- Where each shard's entries are listed once, all of the map's are.
abbrev pub ShardsListTheMap : Type 0
ShardsListTheMap =
    (hash : HashKind) (shards : ℕ) (m : KeyMap) (listed : ℕ → List (ℕ × ℕ)) → 1 ≤ shards →
    ((shard : ℕ) → shard < shards → by_key (listed shard) ≡ entries_in hash shards shard m) → by_key (flat_map listed (range_with_len 0 shards)) ≡ map.entries m

-- Parts of a map's entries to their end are its entries.
abbrev pub PartsListTheMap : Type 0
PartsListTheMap =
    (shown : HandleState) (listed : List (ℕ × ℕ)) → AreListedFrom (λ cursor room told. IsPart cursor room (Some shown) told) None listed → listed ≡ map.entries shown.pairs

-- ---- parts that a log has

-- Scans of a frozen handle, of all shards to their ends, list its entries, wherever in the log they are.
abbrev pub ScansListOneMoment : Type 0
ScansListOneMoment =
    (hash : HashKind) (shards : ℕ) (before after : HandleMap) (log : List MapEntry) (handle : ℕ) (m : KeyMap) → 1 ≤ shards →
    Replays hash shards before log after → IsFrozen before handle m → IsNeverClosed handle log → ScansListAll log hash shards handle (map.entries m)

-- So do parts of its entries to their end.
abbrev pub PartsListOneMoment : Type 0
PartsListOneMoment =
    (hash : HashKind) (shards : ℕ) (before after : HandleMap) (log : List MapEntry) (handle : ℕ) (m : KeyMap) →
    Replays hash shards before log after → IsFrozen before handle m → IsNeverClosed handle log → PartsListAll log hash handle (map.entries m)

-- An export is of the moment of its freeze. Where a seat sees in its log a freeze, and for a while behind it no close of the copy, scans and parts of the copy in this while
-- list the entries of the map that the handle had where the log came to the freeze.
abbrev pub ExportsAreOfTheFreeze : Type 0
ExportsAreOfTheFreeze =
    (hash : HashKind) (seen : MapLog) (front while rest : List MapEntry) (seat handle copy : ℕ) →
    AreShards hash seen.first → IsLegal MapAnswers seen → seen.log ≡ front ++ freezing hash seat handle copy ∷ (while ++ rest) → IsNeverClosed copy while →
    (world : HandleMap) × (m : KeyMap) × Replays hash (length seen.first) (world_of_all seen.first) front world × (map_of world handle ≡ Some m)
    × ScansListAll while hash (length seen.first) copy (map.entries m) × PartsListAll while hash copy (map.entries m)
