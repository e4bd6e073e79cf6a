-- What a caller sees of the record that is kept, and what it asks of what a step tells.
use Rattle.std.specs.Prelude.{◌≡◌, ℕ, ◌<◌, ◌≤◌, List, All, IfSome, None, length, map}
use Rattle.history.specs.declared.events.Event.{Event}
use Rattle.history.specs.Histories.{begun}
use Rattle.slot_arena.specs.declared.refs.Ref.{Ref}
use Rattle.slot_arena.specs.Refs.{slot_of}
use Rattle.machine_model.specs.declared.records.Carried.{Carried}
use Rattle.machine_model.specs.declared.records.Closing.{Closing}
use Rattle.machine_model.specs.declared.records.Progress.{Progress}
use Rattle.machine_model.specs.declared.records.Publication.{Publication}
use Rattle.machine_model.specs.Records.{Record}
use Rattle.chronicle.specs.Committed.{Committed, IsNewestCommitted}
use Rattle.chronicle.specs.Entered.{Entered}
use Rattle.chronicle.specs.Published.{Published, IsNewestPublished}

-- what a caller sees
pub record Chronicled : Type 0 where
  pub past : Record
  -- main nodes of so many slots may be told of
  pub slots : ℕ
  -- so many generations may be closed
  pub generations : ℕ
  -- there is memory for what so many steps tell
  pub room : ℕ

-- actors are counted from 1
abbrev pub IsActor : Record → ℕ → Type 0
IsActor past actor = (0 < actor) × (actor ≤ length past.moments)

-- the operation has begun
abbrev pub HasBegun : Record → ℕ → Type 0
HasBegun past id = id < begun past.events

-- those that a publication may be the change of have begun
abbrev pub IsByBegun : List Event → Publication → Type 0
IsByBegun events p = IfSome p.changer (λ e. e.id < begun events)

-- the main node may be told to be committed: no newer one was committed or published in its slot
pub record CanCommit (kept : Chronicled) (main : Ref) : Type 0 where
  pub within : slot_of main < kept.slots
  pub newest : IsNewestCommitted kept.past.commits main
  pub last : IsNewestPublished kept.past.published main

-- the publication may be told: no newer node was published in the slot
pub record CanPublish (kept : Chronicled) (p : Publication) : Type 0 where
  pub within : slot_of p.main < kept.slots
  pub last : IsNewestPublished kept.past.published p.main
  pub begun : IsByBegun kept.past.events p

-- the generation may be told to be closed in this step: it was drawn, and nothing was closed or placed later
pub record CanClose (kept : Chronicled) (step : ℕ) (c : Carried) : Type 0 where
  pub drawn : c.generation < kept.generations
  pub begun : HasBegun kept.past c.operation
  pub later : All (λ closing. closing.step < step) kept.past.closings
  pub behind : All (λ place. place.step ≤ step) kept.past.places

-- a begin of an actor with this id may be told
pub record CanBegin (kept : Chronicled) (actor id : ℕ) : Type 0 where
  pub actor_is : IsActor kept.past actor
  pub next : id ≡ begun kept.past.events

-- a step of an actor's operation may be told that isn't its end
pub record CanGo (kept : Chronicled) (step actor : ℕ) (progress : Progress) : Type 0 where
  pub actor_is : IsActor kept.past actor
  pub begun_is : 0 < step
  pub given : IfSome progress.given (IsNewestCommitted kept.past.commits)
  pub committed : IfSome progress.committed (CanCommit kept)
  pub carried : IfSome progress.carried (CanClose kept step)
  pub published : IfSome progress.published (CanPublish kept)
  pub alone : IfSome progress.committed (λ main. progress.carried ≡ None)

-- so may an end
pub record CanEnd (kept : Chronicled) (actor id : ℕ) : Type 0 where
  pub actor_is : IsActor kept.past actor
  pub begun_is : HasBegun kept.past id

-- what is kept fits together: the segments of the order end with the closings, there is a mark for each operation that has begun, and none
-- that a main node is the change of is another
pub record FitsTogether (events : List Event) (closings : List Closing) (published : Published) (committed : Committed) (entered : Entered) : Type 0 where
  pub closed : entered.closings ≡ map (λ closing. closing.step) closings
  pub marked : entered.ids ≡ begun events
  pub changers : All (IsByBegun events) published.published
  pub slots : published.slots ≡ committed.slots
