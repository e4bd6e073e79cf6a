-- When an order explains a history.
use Rattle.std.specs.Prelude.{◌≡◌, ◌≢◌, ℕ, ◌<◌, List, [], ◌∷◌, Option, Some, slice_get}
use Rattle.history.specs.declared.calls.Call.{Call}
use Rattle.history.specs.declared.replies.Reply.{Reply}
use Rattle.history.specs.declared.replies.Reply.TheVariants.{NoSlots}
use Rattle.history.specs.declared.events.Event.{Event}
use Rattle.history.specs.Worlds.{HandleMap, first_world}
use Rattle.history.specs.Effects.{Effect}
use Rattle.history.specs.Histories.{Operation, BeginsAt, EndsAt, HasBegun, HasEnded, IsWellFormed}

-- the order has the id at this place
abbrev pub OrderedAt : List ℕ → ℕ → ℕ → Type 0
OrderedAt order place id = slice_get order place ≡ Some id

-- Distinct ids that have begun, with every operation that was answered and none that was refused for want
-- of slots. Unfinished operations may be among them.
pub record IsCandidate (history : List Event) (order : List ℕ) : Type 0 where
  pub distinct : (i j id : ℕ) → OrderedAt order i id → OrderedAt order j id → i ≡ j
  pub has_begun : (i id : ℕ) → OrderedAt order i id → HasBegun history id
  pub not_refused : (i id : ℕ) → OrderedAt order i id → ¬ HasEnded history id NoSlots
  pub answered : (id : ℕ) (answer : Reply) → HasEnded history id answer → answer ≢ NoSlots → (i : ℕ) × OrderedAt order i id

-- the one operation ended before the other began
abbrev pub IsBefore : List Event → ℕ → ℕ → Type 0
IsBefore history a b =
    (end begin : ℕ) × (answer : Reply) × (operation : Operation) × EndsAt history end a answer × BeginsAt history begin b operation × (end < begin)

-- no operation stands behind one that began after its end
abbrev pub KeepsTime : List Event → List ℕ → Type 0
KeepsTime history order = (i j a b : ℕ) → OrderedAt order i b → OrderedAt order j a → i < j → ¬ IsBefore history a b

-- a call, the handle that it opens, and a reply to it
pub record Answered : Type 0 where
  pub call : Call
  pub opens : Option ℕ
  pub answer : Reply

-- the calls lead from one world to the other with these replies, one after the other
abbrev pub Replays : (ℕ → ℕ) → List Answered → HandleMap → HandleMap → Type 0
Replays hash [] world last = last ≡ world
Replays hash (one ∷ more) world last =
    (next : HandleMap) × Effect hash world one.call one.opens one.answer next × Replays hash more next last

-- the operation's call and handle, and its reply if it has ended, else any
abbrev pub Recalls : List Event → ℕ → Answered → Type 0
Recalls history id one =
    ((place : ℕ) × (operation : Operation) × BeginsAt history place id operation × (operation.call ≡ one.call) × (operation.opens ≡ one.opens))
    × ((answer : Reply) → HasEnded history id answer → one.answer ≡ answer)

abbrev pub RecallsEach : List Event → List ℕ → List Answered → Type 0
RecallsEach history [] [] = Unit {0}
RecallsEach history [] (one ∷ more) = ⊥
RecallsEach history (id ∷ ids) [] = ⊥
RecallsEach history (id ∷ ids) (one ∷ more) = Recalls history id one × RecallsEach history ids more

-- The order explains the history, and leads to this world.
pub record Explains (hash : ℕ → ℕ) (history : List Event) (order : List ℕ) (world : HandleMap) : Type 0 where
  pub well_formed : IsWellFormed history
  pub candidate : IsCandidate history order
  pub keeps_time : KeepsTime history order
  pub replayed : (calls : List Answered) × RecallsEach history order calls × Replays hash calls first_world world

-- the order is legal for the history
abbrev pub IsLegal : (ℕ → ℕ) → List Event → List ℕ → Type 0
IsLegal hash history order = (world : HandleMap) × Explains hash history order world
