-- A listing in parts: what it has told so far, and what comes of it.
use Rattle.std.specs.Prelude.{◌≡◌, ◌≤◌, ◌++◌, ◌⊎◌, ℕ, List, [], None, Result, Ok, Err, length}
use Rattle.history.specs.declared.calls.Call.TheVariants.{Entries}
use Rattle.history.specs.declared.replies.Reply.TheVariants as reply
use Rattle.trie_words.specs.declared.entries.Entry.{Entry}
use Rattle.machine_model.specs.Beneath.slot_arena.specs.declared.refs.Ref.{Ref}
use Rattle.machine_model.specs.declared.operations.Operation.{Operation}
pub use Rattle.machine_model.specs.Pairs.{by_key}
use Rattle.machine_model.specs.Walking.{walk_next}
use Rattle.lock_free.specs.declared.call_errors.CallError.{CallError}
use Rattle.lock_free.specs.declared.reading.Way.{Way}
use Rattle.lock_free.specs.declared.rules.View.{View}
use Rattle.lock_free.specs.declared.walking.WalkError.{WalkError}
use Rattle.lock_free.specs.declared.walks.Reached.{Reached}
use Rattle.lock_free.specs.declared.walks.Reached.TheVariants as reached
use Rattle.lock_free.specs.Answering.{HasAnswered}
use Rattle.lock_free.specs.Loading.{IsSound, Runs}
use Rattle.lock_free.specs.Passing.{IsOnWay}
use Rattle.lock_free.specs.SeatCalls.{RanOut, WasRefused}
use Rattle.lock_free.specs.Seated.{HasActors, IsSeated}
use Rattle.lock_free.specs.Stocks.{IsStock, Stocked}
use Rattle.lock_free.specs.UnderWay.{IsUnderWay}
use Rattle.lock_free.specs.Walks.{HasAllPairs, HasWalked, IsLeft, IsWalking}
use Rattle.lock_free.specs.WholeCalls.{HasLeft, SameSeat}

-- as many pairs were told as were asked for
abbrev pub IsMost : {E : Type 0} → Result Reached E → Type 0
IsMost (Ok reached.Most) = Unit {0}
IsMost (Ok reached.All) = ⊥
IsMost (Err error) = ⊥

-- ---- some pairs of a walk

-- it has taken these pairs, and goes on, or is to end; or it may give up
abbrev pub ReachedBy : View → List (ℕ × ℕ) → Result Reached WalkError → View → List Entry → Type 0
ReachedBy before pairs (Ok reached.Most) after stack = HasWalked before pairs after stack
ReachedBy before pairs (Ok reached.All) after stack = HasAllPairs before pairs after
ReachedBy before pairs (Err error) after stack = IsLeft before after

-- a list was longer by the next pairs, so many at most, whatever the walk had taken before
pub record HasAdded (before : View) (stack : List Entry) (list : List (ℕ × ℕ)) (most : ℕ) (result : Result Reached WalkError) (after : View) (then : List Entry) (longer : List (ℕ × ℕ)) : Type 0 where
  pub part : List (ℕ × ℕ)
  pub is : longer ≡ list ++ part
  pub few : length part ≤ most
  pub full : IsMost result → length part ≡ most
  pub next : (told : List (ℕ × ℕ)) → IsWalking before stack told → ReachedBy before (told ++ part) result after then

-- so far, by one pair after another
pub record HasAddedSome (way : Way) (before : View) (stack : List Entry) (list : List (ℕ × ℕ)) (n : ℕ) (v : View) (then : List Entry) (longer : List (ℕ × ℕ)) : Type 0 where
  pub on : IsOnWay v way
  pub part : List (ℕ × ℕ)
  pub is : longer ≡ list ++ part
  pub size : length part ≡ n
  pub taken : List (ℕ × ℕ)
  pub at : IsWalking v then taken
  pub walked : (told : List (ℕ × ℕ)) → IsWalking before stack told → HasWalked before (told ++ part) v then

-- ---- a seat's listing

-- A listing of this handle has begun since then and is under way. It has told these pairs so far, and no other one.
pub record IsScanning (before : View) (handle : ℕ) (told : List (ℕ × ℕ)) (v : View) : Type 0 where
  pub under_way : IsUnderWay before (Entries handle) None v
  pub todo : List Ref
  pub operation : Operation
  pub runs : Runs v operation
  pub call_is : operation.call ≡ Entries handle
  pub line_is : operation.line ≡ walk_next operation todo told

-- It goes on, and has told these pairs; or these are all pairs of the handle, and by rising key they are the reply to the listing in the history; or it was refused.
abbrev pub ScannedTo : View → ℕ → List (ℕ × ℕ) → Result Reached CallError → View → Type 0
ScannedTo before handle told (Ok reached.Most) after = IsScanning before handle told after
ScannedTo before handle told (Ok reached.All) after = HasAnswered before (Entries handle) None (reply.Pairs (by_key told)) after
ScannedTo before handle told (Err why) after = WasRefused before (Entries handle) None why after

-- A list was longer by the next pairs: by so many, where others may follow; by no more, where these are the last. So went on whatever listing was under way.
pub record HasScanned (v : View) (most : ℕ) (list : List (ℕ × ℕ)) (result : Result Reached CallError) (after : View) (longer : List (ℕ × ℕ)) : Type 0 where
  pub part : List (ℕ × ℕ)
  pub is : longer ≡ list ++ part
  pub few : length part ≤ most
  pub full : IsMost result → length part ≡ most
  pub then : (before : View) (handle : ℕ) (told : List (ℕ × ℕ)) → IsScanning before handle told v → ScannedTo before handle (told ++ part) result after

-- It has begun, and has told nothing; or it was refused; or it hasn't begun in its number of tries.
abbrev pub HasBegunScan : View → ℕ → Result Reached CallError → View → Type 0
HasBegunScan before handle (Ok reached.Most) after = IsScanning before handle [] after
HasBegunScan before handle (Ok reached.All) after = ⊥
HasBegunScan before handle (Err why) after = WasRefused before (Entries handle) None why after ⊎ RanOut {A = Reached} before (Err why) after

-- ---- its seat

-- its operation is on its way through all pairs, with these entries to do
pub record IsListing (v : View) (way : Way) (stack : List Entry) : Type 0 where
  pub on : IsOnWay v way
  pub number : v.opens ≡ None
  pub told : List (ℕ × ℕ)
  pub walking : IsWalking v stack told

-- what it has in plain memory is what it knows
pub record IsScanSeat (words : ℕ) (v : View) (number last : ℕ) (stock : Stocked) (way : Way) (stack : List Entry) : Type 0 where
  pub sound : IsSound words v
  pub actors : HasActors v
  pub its : v.actor ≡ number
  pub its_last : v.last ≡ last
  pub owns : IsStock stock v
  pub listing : IsListing v way stack

abbrev pub IsScanBy : ℕ → View → ℕ → ℕ → Stocked → Way → List Entry → Result Reached CallError → Type 0
IsScanBy words v number last stock way stack (Ok reached.Most) = IsScanSeat words v number last stock way stack
IsScanBy words v number last stock way stack (Ok reached.All) = IsSeated words v number last stock
IsScanBy words v number last stock way stack (Err why) = IsSeated words v number last stock

-- the same seat later, in its listing or after it
abbrev pub HasLeftScan : View → Way → Result Reached CallError → View → List Entry → Type 0
HasLeftScan before way (Ok reached.Most) after stack = SameSeat before after × IsListing after way stack
HasLeftScan before way (Ok reached.All) after stack = HasLeft before after
HasLeftScan before way (Err why) after stack = HasLeft before after

abbrev pub HasEnteredScan : View → Result (Way × List Entry) CallError → View → Type 0
HasEnteredScan before (Ok (way, stack)) after = SameSeat before after × IsListing after way stack
HasEnteredScan before (Err why) after = HasLeft before after

abbrev pub entered_by : Result (Way × List Entry) CallError → Result Reached CallError
entered_by (Ok begun) = Ok reached.Most
entered_by (Err why) = Err why
