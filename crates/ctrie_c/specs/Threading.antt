-- What a C program holds of a concurrent map: a seat with a share of it; and what the calls do.
use Rattle.std.specs.Prelude.{◌≡◌, ◌≢◌, ◌⊎◌, ℕ, List, [], ◌∷◌, ◌++◌, length, true, false, Option, Some, None, Result, Ok, Err, IfErr}
use Rattle.ctrie_c.specs.Vocabulary.{HashKind}
use Rattle.history.specs.declared.calls.Call.{Call}
use Rattle.history.specs.declared.calls.Call.TheVariants.{Get}
use Rattle.history.specs.declared.replies.Reply.{Reply}
use Rattle.history.specs.declared.replies.Reply.TheVariants as reply
use Rattle.concurrent_map.specs.Beneath.lock_free.specs.declared.call_errors.CallError.{CallError}
use Rattle.concurrent_map.specs.Beneath.lock_free.specs.declared.call_errors.CallError.TheVariants as error
use Rattle.concurrent_map.specs.Beneath.lock_free.specs.Attempts.{IsTried}
use Rattle.concurrent_map.specs.Beneath.lock_free.specs.KeyReplies.{FitsError}
use Rattle.concurrent_map.specs.Beneath.lock_free.specs.Naming.{MapId}
use Rattle.concurrent_map.specs.Beneath.lock_free.specs.Places.{AreSizes}
use Rattle.concurrent_map.specs.declared.tries.MapTried.{MapTried}
use Rattle.concurrent_map.specs.declared.tries.MapTried.TheVariants as tried
use Rattle.concurrent_map.specs.Calls.{IsTold, IsToldAtOnce, IsToldClose, RanOut}
use Rattle.concurrent_map.specs.Room.{sizes_for}
use Rattle.concurrent_map.specs.Seats.{AreNewSeats, IsSeatOf, SeatState, state_of_seat}
use Rattle.concurrent_map.specs.Tries.{IsAnswer, IsUnderWay}
use Rattle.ctrie_c.specs.Answers.{bad_hash, has_map, no_map}
use Rattle.ctrie_c.specs.Sharing.{busy, no_seat, IsFront}
use Rattle.ctrie_c.specs.declared.listing.Pair.{Pair}
use Rattle.ctrie_c.specs.declared.threading.At.{At}
use Rattle.ctrie_c.specs.declared.threading.At.TheVariants as at

-- the map, the seat at it, which rests or whose call is under way, and the seats that are to be handed out yet
pub record Threading : Type 0 where
  pub map : MapId
  pub at : At
  pub spare : List SeatState

-- its seat is one of the map's, and what is under way of it is this call
abbrev pub IsHeldAt : MapId → At → Type 0
IsHeldAt map (at.Resting seat) = IsSeatOf map seat
IsHeldAt map (at.Parked seat asked) = IsSeatOf map (state_of_seat seat) × IsTried asked × ((before : SeatState) × IsUnderWay before asked seat)
IsHeldAt map at.Away = ⊥

-- no call of it is under way
abbrev pub IsResting : At → Type 0
IsResting (at.Resting seat) = Unit {0}
IsResting other = ⊥

-- the map is the same one, and so are the seats to be handed out
abbrev pub IsSame : Threading → Threading → Type 0
IsSame old new = (new.map ≡ old.map) × (new.spare ≡ old.spare)

-- ---- codes

-- of a call that is under way
abbrev pub again : ℕ
again = 17

-- why a call was refused
abbrev pub code_of : CallError → ℕ
code_of error.NoHandle = 2
code_of error.ReadOnly = 3
code_of error.HandlesFull = 4
code_of error.Crowded = 5
code_of error.Full = 6
code_of error.WornOut = 8
code_of error.Memory = 9
code_of error.NotReadOnly = 10
code_of error.Busy = busy
code_of error.Spent = 18

-- the answer, or the code of why there is none
abbrev pub coded : {A : Type 0} → Result A CallError → Result A ℕ
coded {A} (Ok told) = Ok told
coded {A} (Err why) = Err (code_of why)

-- the code tells of this answer, or is that of why there is none
abbrev pub Tells : {A : Type 0} → (A → ℕ → Type 0) → Result A ℕ → ℕ → Type 0
Tells {A} Says (Ok told) code = Says told code
Tells {A} Says (Err refusal) code = code ≡ refusal

-- the value that the key had, if it had one
abbrev pub SaysFound : ℕ → Reply → ℕ → Type 0
SaysFound value (reply.Found None) code = code ≡ 0
SaysFound value (reply.Found (Some found)) code = (code ≡ 1) × (value ≡ found)
SaysFound value answer code = ⊥

-- whether it had one
abbrev pub SaysContained : Reply → ℕ → Type 0
SaysContained (reply.Found None) code = code ≡ 0
SaysContained (reply.Found (Some found)) code = code ≡ 1
SaysContained answer code = ⊥

-- whether it was so
abbrev pub SaysTruth : Reply → ℕ → Type 0
SaysTruth (reply.Truth false) code = code ≡ 0
SaysTruth (reply.Truth true) code = code ≡ 1
SaysTruth answer code = ⊥

-- that no key has a value any more
abbrev pub SaysCleared : Reply → ℕ → Type 0
SaysCleared reply.Cleared code = code ≡ 0
SaysCleared answer code = ⊥

-- the handle that was opened
abbrev pub SaysOpened : ℕ → Reply → ℕ → Type 0
SaysOpened number (reply.Opened opened) code = (code ≡ 0) × (number ≡ opened)
SaysOpened number answer code = ⊥

abbrev pub SaysDone : Unit {0} → ℕ → Type 0
SaysDone done code = code ≡ 0

abbrev pub SaysCount : ℕ → ℕ → ℕ → Type 0
SaysCount written count code = (code ≡ 0) × (written ≡ count)

-- how many pairs there are, the first of which are written
abbrev pub SaysFront : List Pair → List Pair → ℕ → List (ℕ × ℕ) → ℕ → Type 0
SaysFront before after written all code = (code ≡ 0) × (written ≡ length all) × IsFront all before after

-- ---- calls in a number of tries

-- what has come of a call: the seat rests, or the call is under way
abbrev pub come : MapTried → Call → At × Result Reply ℕ
come (tried.Answered seat told) call = (at.Resting seat, coded told)
come (tried.Parked seat) call = (at.Parked seat call, Err again)

-- the seat, which was so, is to make this call: it rests, or the call is under way since then
abbrev pub IsToMake : SeatState → Call → At → Type 0
IsToMake before call (at.Resting seat) = seat ≡ before
IsToMake before call (at.Parked seat asked) = (asked ≡ call) × IsUnderWay before call seat
IsToMake before call at.Away = ⊥

-- another call of the seat is under way
abbrev pub IsAtAnother : Call → At → Type 0
IsAtAnother call (at.Parked seat asked) = asked ≢ call
IsAtAnother call other = ⊥

-- The call is over, and was answered so, or has not begun in its number of tries, and the seat rests; or it is under way.
abbrev pub HasMade : SeatState → Call → Result Reply ℕ → At → Type 0
HasMade before call result (at.Resting after) = (told : Result Reply CallError) × (result ≡ coded told) × (IsAnswer before call told after ⊎ RanOut before told after)
HasMade before call result (at.Parked seat asked) = (result ≡ Err again) × (asked ≡ call) × IsUnderWay before call seat
HasMade before call result at.Away = ⊥

pub record MakesAt (call : Call) (result : Result Reply ℕ) (old new : At) : Type 0 where
  pub another : IsAtAnother call old → (result ≡ Err busy) × (new ≡ old)
  pub makes : (before : SeatState) → IsToMake before call old → HasMade before call result new

-- a get of a seat that rests, which it would have made at once: it was refused, or is not in the history
abbrev pub GlancesInVain : Call → At → At → Type 0
GlancesInVain (Get handle key) (at.Resting seat) (at.Resting after) = IsToldAtOnce seat (Get handle key) None after
GlancesInVain call old new = ⊥

-- the seat makes the call; or makes it anew
abbrev pub MakesOrAgain : Call → Result Reply ℕ → At → At → Type 0
MakesOrAgain call result old new = MakesAt call result old new ⊎ ((between : At) × GlancesInVain call old between × MakesAt call result between new)

-- What the held seat does with a call: nothing where another one of it is under way.
abbrev pub Makes : Call → Result Reply ℕ → Option Threading → Option Threading → Type 0
Makes call result (Some old) (Some new) = IsSame old new × MakesOrAgain call result old.at new.at
Makes call result None None = result ≡ Err no_map
Makes call result before after = ⊥

-- and its code
abbrev pub Asks : Call → (Reply → ℕ → Type 0) → ℕ → Option Threading → Option Threading → Type 0
Asks call Says code before after = (result : Result Reply ℕ) × Makes call result before after × Tells Says result code

-- whichever call is under way of the seat goes on, and the seat rests where it is over
abbrev pub SettlesAt : At → ℕ → At → Type 0
SettlesAt (at.Resting seat) code now = (code ≡ 0) × (now ≡ at.Resting seat)
SettlesAt (at.Parked seat asked) code (at.Resting after) = (code ≡ 0) × ((before : SeatState) → IsUnderWay before asked seat → (told : Result Reply CallError) × IsAnswer before asked told after)
SettlesAt (at.Parked seat asked) code (at.Parked later asks) = (code ≡ again) × (asks ≡ asked) × ((before : SeatState) → IsUnderWay before asked seat → IsUnderWay before asked later)
SettlesAt old code new = ⊥

abbrev pub Settles : ℕ → Option Threading → Option Threading → Type 0
Settles code (Some old) (Some new) = IsSame old new × SettlesAt old.at code new.at
Settles code None None = code ≡ no_map
Settles code before after = ⊥

-- ---- calls that are never under way

-- what such a call of the seat came to, where none is under way
abbrev pub DoesAt : {A : Type 0} → (SeatState → Result A CallError → SeatState → Type 0) → Result A ℕ → At → At → Type 0
DoesAt {A} IsSo result (at.Resting seat) (at.Resting after) = (told : Result A CallError) × (result ≡ coded told) × IsSo seat told after
DoesAt {A} IsSo result (at.Parked seat asked) now = (result ≡ Err busy) × (now ≡ at.Parked seat asked)
DoesAt {A} IsSo result old new = ⊥

abbrev pub Does : {A : Type 0} → (SeatState → Result A CallError → SeatState → Type 0) → Result A ℕ → Option Threading → Option Threading → Type 0
Does {A} IsSo result (Some old) (Some new) = IsSame old new × DoesAt IsSo result old.at new.at
Does {A} IsSo result None None = result ≡ Err no_map
Does {A} IsSo result before after = ⊥

-- and its code
abbrev pub DoesSo : {A : Type 0} → (SeatState → Result A CallError → SeatState → Type 0) → (A → ℕ → Type 0) → ℕ → Option Threading → Option Threading → Type 0
DoesSo {A} IsSo Says code before after = (result : Result A ℕ) × Does IsSo result before after × Tells Says result code

-- a walk over all pairs of a copy for readers, which may run out of tries, and is refused only for a reason that fits it
abbrev pub Walks : {A : Type 0} → (A → Reply) → Call → SeatState → Result A CallError → SeatState → Type 0
Walks {A} reply_of call before told after = (IsTold reply_of before call told after ⊎ RanOut before told after) × IfErr told (FitsError call)

abbrev pub Closes : ℕ → SeatState → Result (Unit {0}) CallError → SeatState → Type 0
Closes handle before told after = IsToldClose before handle told after

-- ---- making

-- a new map for so many keys, with this hash and so many seats, where there was none; or its sizes are out of range, or memory was refused
abbrev pub Threads : Option HashKind → ℕ → ℕ → ℕ → Option Threading → Option Threading → Type 0
Threads None keys seats code before after = (code ≡ bad_hash) × (after ≡ before)
Threads (Some kind) keys seats code (Some old) after = (code ≡ has_map) × (after ≡ Some old)
Threads (Some kind) keys seats code None (Some made) =
    (code ≡ 0) × AreSizes (sizes_for keys kind seats) × (made.map.sizes ≡ sizes_for keys kind seats)
    × ((seat : SeatState) × (made.at ≡ at.Resting seat) × AreNewSeats made.map 1 (made.spare ++ seat ∷ []) seats)
Threads (Some kind) keys seats code None None = ((code ≡ 7) × ¬ AreSizes (sizes_for keys kind seats)) ⊎ ((code ≡ 9) × AreSizes (sizes_for keys kind seats))

-- one of these seats is held at this map, and hands out the others
abbrev pub HoldsOne : MapId → List SeatState → ℕ → Option Threading → Type 0
HoldsOne map seats code (Some made) = (code ≡ 0) × (made.map ≡ map) × ((seat : SeatState) × (made.at ≡ at.Resting seat) × (seats ≡ made.spare ++ seat ∷ []))
HoldsOne map seats code None = ((code ≡ no_seat) × (seats ≡ [])) ⊎ (code ≡ 9)

-- the last of the seats that were to be handed out is
abbrev pub HasHandedOut : Threading → Threading → Threading → Type 0
HasHandedOut old new other =
    (new.map ≡ old.map) × (new.at ≡ old.at) × ((seat : SeatState) × (other.at ≡ at.Resting seat) × (old.spare ≡ new.spare ++ seat ∷ [])) × (other.map ≡ old.map) × (other.spare ≡ [])

-- another seat comes of a held one, where none was held
abbrev pub Splits : ℕ → Option Threading → Option Threading → Option Threading → Option Threading → Type 0
Splits code held (Some other) later got = (code ≡ has_map) × (later ≡ held) × (got ≡ Some other)
Splits code None None later got = (code ≡ no_map) × (later ≡ None) × (got ≡ None)
Splits code (Some old) None (Some new) (Some other) = (code ≡ 0) × HasHandedOut old new other
Splits code (Some old) None (Some new) None = (new ≡ old) × (((code ≡ no_seat) × (old.spare ≡ [])) ⊎ ((old.spare ≢ []) × (code ≡ 9)))
Splits code (Some old) None None got = ⊥
