-- Histories: what they say of operations, and when they are well formed. A place is an index of the history.
use Rattle.std.specs.Prelude.{◌≡◌, ℕ, Bool, true, false, List, take, Option, Some, IsSome, IsNone, slice_get, count_by}
use Rattle.history.specs.declared.calls.Call.{Call}
use Rattle.history.specs.declared.calls.Call.TheVariants.{Snapshot, Freeze}
use Rattle.history.specs.declared.replies.Reply.{Reply}
use Rattle.history.specs.declared.events.Event.{Event}
use Rattle.history.specs.declared.events.Event.TheVariants.{Begin, End}

-- what a begin says: whose operation it is, its call, and the handle that it opens
pub record Operation : Type 0 where
  pub actor : ℕ
  pub call : Call
  pub opens : Option ℕ

-- at this place the operation begins
abbrev pub BeginsAt : List Event → ℕ → ℕ → Operation → Type 0
BeginsAt history place id operation = slice_get history place ≡ Some (Begin id operation.actor operation.call operation.opens)

-- at this place the operation ends with this reply
abbrev pub EndsAt : List Event → ℕ → ℕ → Reply → Type 0
EndsAt history place id answer = slice_get history place ≡ Some (End id answer)

-- the operation has begun
abbrev pub HasBegun : List Event → ℕ → Type 0
HasBegun history id = (place : ℕ) × (operation : Operation) × BeginsAt history place id operation

-- the operation has ended with this reply
abbrev pub HasEnded : List Event → ℕ → Reply → Type 0
HasEnded history id answer = (place : ℕ) × EndsAt history place id answer

-- the operation is one of this actor's, and has begun and not ended
abbrev pub IsRunning : List Event → ℕ → ℕ → Type 0
IsRunning history id actor =
    ((place : ℕ) × (operation : Operation) × BeginsAt history place id operation × (operation.actor ≡ actor)) × ((answer : Reply) → ¬ HasEnded history id answer)

abbrev pub is_begin : Event → Bool
is_begin (Begin id actor call opens) = true
is_begin (End id answer) = false

-- how many operations have begun
abbrev pub begun : List Event → ℕ
begun history = count_by is_begin history

-- a snapshot or a freeze names the handle that it opens, no other call does
abbrev pub OpensRightly : Call → Option ℕ → Type 0
OpensRightly (Snapshot h) opens = IsSome opens
OpensRightly (Freeze h) opens = IsSome opens
OpensRightly call opens = IsNone opens

-- After this history the event may come: the next operation begins, of an actor that runs none; or an
-- operation that runs ends.
abbrev pub MayFollow : List Event → Event → Type 0
MayFollow history (Begin id actor call opens) = (id ≡ begun history) × OpensRightly call opens × ((other : ℕ) → ¬ IsRunning history other actor)
MayFollow history (End id answer) = (actor : ℕ) × IsRunning history id actor

-- each event may come after those before it
abbrev pub IsWellFormed : List Event → Type 0
IsWellFormed history = (place : ℕ) (event : Event) → slice_get history place ≡ Some event → MayFollow (take place history) event
