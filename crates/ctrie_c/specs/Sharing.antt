-- What a C program holds of a shared map: a seat with a share of it; and what the calls do.
use Rattle.std.specs.Prelude.{◌≡◌, ◌≢◌, ◌<◌, ◌⊎◌, ℕ, List, [], ◌∷◌, ◌++◌, length, take, drop, map, min, Bool, Option, Some, None, Result, Ok, Err, IfOk, IfErr}
use Rattle.ctrie_c.specs.Vocabulary.{HashKind, Entries}
use Rattle.shared_map.specs.Beneath.ctrie_map.specs.declared.errors.MapError.{MapError}
use Rattle.shared_map.specs.Beneath.ctrie_map.specs.declared.errors.MapError.TheVariants.{Memory}
use Rattle.shared_map.specs.Beneath.ctrie_map.specs.Maps.{AreSlots}
use Rattle.gate.specs.Logs.{saturated}
use Rattle.shared_map.specs.declared.asks.Ask.{Ask}
use Rattle.shared_map.specs.declared.asks.Ask.TheVariants.{Do, Scan}
use Rattle.shared_map.specs.Beneath.sharded_gate.specs.declared.gates.ShardCount.{ShardCount}
use Rattle.shared_map.specs.Beneath.sharded_gate.specs.Shards.{calls_about}
use Rattle.shared_map.specs.Asks.{Told, about}
use Rattle.shared_map.specs.Calling.{HasAsked, HasHeardOf, Tells}
use Rattle.shared_map.specs.Opening.{AreShardNumbers, IsNewShared, RefusesNew}
use Rattle.shared_map.specs.Seats.{MapRoom, MapSeat}
use Rattle.shared_map.specs.Telling.{listed_in, part_in}
use Rattle.ctrie_c.specs.Answers.{bad_hash, code_limit, done_told, has_map, no_map, told_by}
use Rattle.ctrie_c.specs.Listing.{Writes, pair_of}
use Rattle.ctrie_c.specs.Listing.{last_of as last_key_of}
use Rattle.ctrie_c.specs.declared.counts.Count.{Count}
use Rattle.ctrie_c.specs.declared.listing.Cursor.{Cursor}
use Rattle.ctrie_c.specs.declared.listing.Pair.{Pair}

-- the map, a seat at it, and the seats that are to be handed out yet
pub record Sharing : Type 0 where
  pub map : MapRoom
  pub seat : MapSeat
  pub spare : List MapSeat

-- of a call that another seat kept from coming in, and of one that wants a seat where none is left
abbrev pub busy : ℕ
busy = 14

abbrev pub no_seat : ℕ
no_seat = 15

-- ---- asking

-- the map is the same one, and so are the seats to be handed out
abbrev pub IsSame : Sharing → Sharing → Type 0
IsSame old new = (new.map ≡ old.map) × (new.spare ≡ old.spare)

-- the seat asked this, and was told that: its log has one entry more
abbrev pub Asks : Ask → Told → Sharing → Sharing → Type 0
Asks ask told old new = IsSame old new × HasAsked old.map old.seat ask told new.seat

abbrev pub Hears : ShardCount → Bool → Sharing → Sharing → Type 0
Hears count heard old new = IsSame old new × HasHeardOf old.map old.seat count heard new.seat

-- What a try did with the seat that is held, if there is one: nothing where another seat kept it out, and else what the code tells.
abbrev pub Tries : Option Sharing → Option Sharing → ℕ → (Sharing → Sharing → Type 0) → Type 0
Tries (Some old) (Some new) code Holds = ((code ≡ busy) × (new ≡ old)) ⊎ ((code < code_limit) × Holds old new)
Tries None None code Holds = code ≡ no_map
Tries before after code Holds = ⊥

-- the seat's log has one entry more, with what is said of it
abbrev pub Says : {A : Type 0} → (Told → A) → Ask → A → Sharing → Sharing → Type 0
Says says ask result old new = IsSame old new × Tells says old.map old.seat ask result new.seat

-- the seat that is held asked this
abbrev pub AsksIt : Option Sharing → Option Sharing → Ask → Told → Type 0
AsksIt (Some old) (Some new) ask told = Asks ask told old new
AsksIt before after ask told = ⊥

-- how many calls about a shard
abbrev pub count_of : Count → ShardCount
count_of count = record { shard = count.shard; calls = count.calls }

abbrev pub count_told : ℕ → Count → Result ShardCount MapError
count_told code count = told_by (count_of count) (count_of count) code

-- the seat heard whether so many calls have been made
abbrev pub HearsSo : ShardCount → Result Bool MapError → Sharing → Sharing → Type 0
HearsSo count result old new = (heard : Bool) × (result ≡ Ok heard) × Hears count heard old new

-- the shard whose calls the seat counts, and how many of them it knows of
abbrev pub last_of : MapSeat → ShardCount
last_of seat = record { shard = seat.shard; calls = saturated (length (calls_about (about seat.seat.gate.slots) seat.shard seat.seat.seen.log)) }

abbrev pub TellsLast : Option Sharing → Option Sharing → ℕ → Result ShardCount MapError → Type 0
TellsLast (Some old) (Some new) code result = (new ≡ old) × (result ≡ Ok (last_of old.seat))
TellsLast None None code result = code ≡ no_map
TellsLast before after code result = ⊥

-- the first of these are written at the front of a buffer, as many as there is room for
abbrev pub IsFront : List (ℕ × ℕ) → List Pair → List Pair → Type 0
IsFront all before after =
    (take (min (length all) (length before)) after ≡ map pair_of (take (length before) all)) × (drop (min (length all) (length before)) after ≡ drop (min (length all) (length before)) before)

-- all pairs of a handle's map were listed, and the first of them are written
abbrev pub ListsFront : List Pair → List Pair → ℕ → Result ℕ MapError → Sharing → Sharing → Type 0
ListsFront before after handle result old new = (told : Told) × Asks (Do (Entries handle)) told old new
    × IfOk result (λ count. (all : List (ℕ × ℕ)) × (listed_in told ≡ Ok all) × (count ≡ length all) × IsFront all before after)
    × IfErr result (λ error. (listed_in told ≡ Err error) × (after ≡ before))

-- the next part of what a handle has in a shard, in the map's own order, is written
abbrev pub ScansShard : ℕ → Cursor → List Pair → Cursor → List Pair → ℕ → Result ℕ MapError → Sharing → Sharing → Type 0
ScansShard shard cursor before behind_it after handle result old new = (told : Told) × Asks (Scan handle shard (last_key_of cursor) (length before)) told old new
    × IfOk result (λ count. (part : List (ℕ × ℕ)) × (part_in told ≡ Ok part) × Writes (take (length before) part) cursor before count behind_it after)
    × IfErr result (λ error. (part_in told ≡ Err error) × (behind_it ≡ cursor) × (after ≡ before))

-- how many shards there are
abbrev pub TellsShards : Option Sharing → Option Sharing → ℕ → Result ℕ MapError → Type 0
TellsShards (Some old) (Some new) code result = (new ≡ old) × (result ≡ Ok (length old.map.room.first))
TellsShards None None code result = code ≡ no_map
TellsShards before after code result = ⊥

-- ---- making

-- a shared map in so many shards of so many slots, with this hash, and so many seats, where there was none
abbrev pub Shares : Option HashKind → ℕ → ℕ → ℕ → ℕ → Option Sharing → Option Sharing → Type 0
Shares None slots shards seats code before after = (code ≡ bad_hash) × (after ≡ before)
Shares (Some kind) slots shards seats code (Some old) after = (code ≡ has_map) × (after ≡ Some old)
Shares (Some kind) slots shards seats code None (Some made) =
    (code ≡ 0) × IsNewShared slots kind shards seats made.map (made.spare ++ made.seat ∷ []) × AreSlots slots × AreShardNumbers shards
Shares (Some kind) slots shards seats code None None =
    ((code ≡ no_seat) × (seats ≡ 0) × AreSlots slots × AreShardNumbers shards)
    ⊎ ((code < code_limit) × IfOk (done_told code) (λ _. ⊥) × IfErr (done_told code) (RefusesNew slots shards))

-- one of these seats is held at this map, and hands out the others
abbrev pub HoldsOne : MapRoom → List MapSeat → ℕ → Option Sharing → Type 0
HoldsOne room seats code (Some made) = (code ≡ 0) × (made.map ≡ room) × (seats ≡ made.spare ++ made.seat ∷ [])
HoldsOne room seats code None = ((code ≡ no_seat) × (seats ≡ [])) ⊎ ((code < code_limit) × (done_told code ≡ Err Memory))

-- the last of the seats that were to be handed out is
abbrev pub HasHandedOut : Sharing → Sharing → Sharing → Type 0
HasHandedOut old new other = (new.map ≡ old.map) × (new.seat ≡ old.seat) × (old.spare ≡ new.spare ++ other.seat ∷ []) × (other.map ≡ old.map) × (other.spare ≡ [])

-- another seat comes of a held one, where none was held
abbrev pub Splits : ℕ → Option Sharing → Option Sharing → Option Sharing → Option Sharing → Type 0
Splits code held (Some other) later got = (code ≡ has_map) × (later ≡ held) × (got ≡ Some other)
Splits code None None later got = (code ≡ no_map) × (later ≡ None) × (got ≡ None)
Splits code (Some old) None (Some new) (Some other) = (code ≡ 0) × HasHandedOut old new other
Splits code (Some old) None (Some new) None =
    (new ≡ old) × (((code ≡ no_seat) × (old.spare ≡ [])) ⊎ ((old.spare ≢ []) × (code < code_limit) × (done_told code ≡ Err Memory)))
Splits code (Some old) None None got = ⊥
