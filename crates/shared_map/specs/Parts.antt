-- A frozen handle, and what is listed of it in parts.
use Rattle.std.specs.Prelude.{◌≡◌, ◌<◌, ◌++◌, ℕ, List, [], ◌∷◌, length, flat_map, All, Contains, Option, Some, None, Ok}
use Rattle.std.specs.List.{range_with_len}
use Rattle.std.specs.FinMap as map
use Rattle.shared_map.specs.Vocabulary.{HashKind, ReadOnly, Close, Freeze, Closed, Opened, HandleMap, KeyMap, by_key}
use Rattle.gate.specs.Logs.{entry}
use Rattle.shared_map.specs.declared.asks.Answer.TheVariants as answer
use Rattle.shared_map.specs.declared.asks.Ask.TheVariants.{Do, From, Scan}
use Rattle.shared_map.specs.declared.asks.Request.{Request}
use Rattle.shared_map.specs.Asks.{MapEntry, Told, asking}

-- the handle is open and read-only, and has this map
abbrev pub IsFrozen : HandleMap → ℕ → KeyMap → Type 0
IsFrozen world handle m = map.get world handle ≡ Some (record { access = ReadOnly; pairs = m })

-- a freeze of the handle by this seat has opened the copy
abbrev pub freezing : HashKind → ℕ → ℕ → ℕ → MapEntry
freezing hash seat handle copy = entry seat (asking hash (Do (Freeze handle))) (Ok (answer.Reply (Opened copy)))

-- the call has closed the handle
abbrev pub HasClosed : ℕ → MapEntry → Type 0
HasClosed handle e = (e.call.ask ≡ Do (Close handle)) × (e.answer ≡ Ok (answer.Reply Closed))

-- none of these calls has
abbrev pub IsNeverClosed : ℕ → List MapEntry → Type 0
IsNeverClosed handle log = All (λ e. ¬ HasClosed handle e) log

-- ---- parts

-- the last key of these pairs, or where there are none the one before
abbrev pub last_key : Option ℕ → List (ℕ × ℕ) → Option ℕ
last_key cursor [] = cursor
last_key cursor (pair ∷ pairs) = last_key (Some pair.0) pairs

-- These pairs were told in parts, from behind this key to the end: each part goes on behind the last key so far, and the last one has fewer pairs than it had room for.
-- `IsTold` says of a key and a room what was told.
pub data AreListedFrom (IsTold : Option ℕ → ℕ → Told → Type 0) : Option ℕ → List (ℕ × ℕ) → Type 0 where
  ends : (cursor : Option ℕ) (room : ℕ) (part : List (ℕ × ℕ)) → IsTold cursor room (Ok (answer.Part part)) → length part < room → AreListedFrom IsTold cursor part
  goes_on : (cursor : Option ℕ) (room : ℕ) (part rest : List (ℕ × ℕ)) → IsTold cursor room (Ok (answer.Part part)) →
      AreListedFrom IsTold (last_key cursor part) rest → AreListedFrom IsTold cursor (part ++ rest)

-- a call of the log asked this, and was told that
abbrev pub IsToldIn : List MapEntry → Request → Told → Type 0
IsToldIn log request told = (seat : ℕ) × Contains log (entry seat request told)

-- these pairs of the handle are listed by scans that the log has, of this shard from its beginning to its end
abbrev pub ScansList : List MapEntry → HashKind → ℕ → ℕ → List (ℕ × ℕ) → Type 0
ScansList log hash handle shard listed = AreListedFrom (λ cursor room told. IsToldIn log (asking hash (Scan handle shard cursor room)) told) None listed

-- these by parts of its entries that the log has
abbrev pub PartsList : List MapEntry → HashKind → ℕ → List (ℕ × ℕ) → Type 0
PartsList log hash handle listed = AreListedFrom (λ cursor room told. IsToldIn log (asking hash (From handle cursor room)) told) None listed

-- what scans list so of each shard, of so many, are together these entries, each once
abbrev pub ScansListAll : List MapEntry → HashKind → ℕ → ℕ → List (ℕ × ℕ) → Type 0
ScansListAll log hash shards handle entries =
    (listed : ℕ → List (ℕ × ℕ)) → ((shard : ℕ) → shard < shards → ScansList log hash handle shard (listed shard)) → by_key (flat_map listed (range_with_len 0 shards)) ≡ entries

-- what parts list so are these entries
abbrev pub PartsListAll : List MapEntry → HashKind → ℕ → List (ℕ × ℕ) → Type 0
PartsListAll log hash handle entries = (listed : List (ℕ × ℕ)) → PartsList log hash handle listed → listed ≡ entries
