-- A listing in parts, in the words of histories.
use Rattle.std.specs.Prelude.{◌≡◌, ◌≤◌, ◌++◌, ◌⊎◌, ℕ, List, [], None, Err, length}
use Rattle.history.specs.declared.calls.Call.TheVariants.{Entries}
use Rattle.history.specs.declared.replies.Reply.TheVariants.{Pairs}
use Rattle.lock_free.specs.declared.scans.Scanned.{Scanned}
use Rattle.lock_free.specs.declared.scans.Scanned.TheVariants as plain
use Rattle.lock_free.specs.KeyReplies.{FitsError}
use Rattle.lock_free.specs.Naming.{MapId}
use Rattle.lock_free.specs.Places.{AreSizes}
use Rattle.lock_free.specs.Scans as lf
use Rattle.lock_free.specs.Scans.{by_key}
use Rattle.lock_free.specs.Seated.{HasGoneOn, Seated}
use Rattle.lock_free.specs.WholeCalls.{IsWalkLack}
use Rattle.concurrent_map.specs.declared.scans.MapScanned.{MapScanned}
use Rattle.concurrent_map.specs.declared.scans.MapScanned.TheVariants as scanned
use Rattle.concurrent_map.specs.Calls.{RanOut, WasAnswered, WasRefused}
use Rattle.concurrent_map.specs.Seats.{IsSeatOf, SeatState, state_of_seat}

-- the seat, as it was before this listing, which has begun since, is under way, and has told these pairs so far
pub record IsScanning (before : SeatState) (handle : ℕ) (told : List (ℕ × ℕ)) (seat : Seated) : Type 0 where
  pub first : Seated
  pub was : state_of_seat first ≡ before
  pub later : HasGoneOn first seat
  pub scanning : lf.IsScanning first.view handle told seat.view

-- It goes on, and has told these pairs; or these are all pairs, and by rising key they are the reply to the listing in the history; or it was refused.
abbrev pub ScannedTo : SeatState → ℕ → List (ℕ × ℕ) → MapScanned → Type 0
ScannedTo before handle told (scanned.Paused seat) = IsScanning before handle told seat
ScannedTo before handle told (scanned.Done seat) = WasAnswered before (Entries handle) None (Pairs (by_key told)) seat
ScannedTo before handle told (scanned.Refused seat why) = WasRefused before (Entries handle) None why seat

abbrev pub IsPaused : MapScanned → Type 0
IsPaused (scanned.Paused seat) = Unit {0}
IsPaused (scanned.Done seat) = ⊥
IsPaused (scanned.Refused seat why) = ⊥

-- A list was longer by the next pairs: by so many, where others may follow; by no more, where these are the last. So went on whatever listing was under way.
pub record HasScanned (before : Seated) (most : ℕ) (list : List (ℕ × ℕ)) (result : MapScanned) (longer : List (ℕ × ℕ)) : Type 0 where
  pub part : List (ℕ × ℕ)
  pub is : longer ≡ list ++ part
  pub few : length part ≤ most
  pub full : IsPaused result → length part ≡ most
  pub then : (first : SeatState) (handle : ℕ) (told : List (ℕ × ℕ)) → IsScanning first handle told before → ScannedTo first handle (told ++ part) result

-- It has begun, and has told nothing; or it was refused; or it has not begun in its number of tries.
abbrev pub HasBegunScan : SeatState → ℕ → MapScanned → Type 0
HasBegunScan before handle (scanned.Paused seat) = IsScanning before handle [] seat
HasBegunScan before handle (scanned.Done seat) = ⊥
HasBegunScan before handle (scanned.Refused seat why) = WasRefused before (Entries handle) None why seat ⊎ RanOut {A = Unit {0}} before (Err why) seat

-- it is refused only for a reason that fits it
abbrev pub FitsScan : ℕ → MapScanned → Type 0
FitsScan handle (scanned.Refused seat why) = FitsError (Entries handle) why
FitsScan handle result = Unit {0}

-- it goes on unless memory is lacking, or its tries are used up
abbrev pub GoesOnUnlessLacking : MapScanned → Type 0
GoesOnUnlessLacking (scanned.Refused seat why) = IsWalkLack why
GoesOnUnlessLacking result = Unit {0}

-- its seat is one of this map's
abbrev pub IsScannedAt : MapId → MapScanned → Type 0
IsScannedAt map (scanned.Paused seat) = IsSeatOf map (state_of_seat seat)
IsScannedAt map (scanned.Done seat) = IsSeatOf map seat
IsScannedAt map (scanned.Refused seat why) = IsSeatOf map seat

-- ---- the same, as `lock_free` says it

abbrev pub of_map : Scanned → MapScanned
of_map (plain.Paused seat) = scanned.Paused seat
of_map (plain.Done seat) = scanned.Done (state_of_seat seat)
of_map (plain.Refused seat why) = scanned.Refused (state_of_seat seat) why

-- the sizes of its seat's map are in range
abbrev pub HasSizes : Scanned → Type 0
HasSizes (plain.Paused seat) = AreSizes seat.view.sizes
HasSizes (plain.Done seat) = AreSizes seat.view.sizes
HasSizes (plain.Refused seat why) = AreSizes seat.view.sizes
