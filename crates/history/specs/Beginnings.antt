-- The beginning of an order: when it leads to a world, and which operation may stand next.
use Rattle.std.specs.Prelude.{◌≡◌, ℕ, List}
use Rattle.history.specs.declared.replies.Reply.TheVariants.{NoSlots}
use Rattle.history.specs.declared.events.Event.{Event}
use Rattle.history.specs.Worlds.{HandleMap, first_world}
use Rattle.history.specs.Effects.{Effect}
use Rattle.history.specs.Histories.{HasBegun, HasEnded}
use Rattle.history.specs.Orders.{OrderedAt, IsBefore, KeepsTime, Answered, Recalls, RecallsEach, Replays}

-- The ids explain what the history says of them, and lead to this world.
pub record LeadsTo (hash : ℕ → ℕ) (history : List Event) (ids : List ℕ) (world : HandleMap) : Type 0 where
  pub distinct : (i j id : ℕ) → OrderedAt ids i id → OrderedAt ids j id → i ≡ j
  pub has_begun : (i id : ℕ) → OrderedAt ids i id → HasBegun history id
  pub not_refused : (i id : ℕ) → OrderedAt ids i id → ¬ HasEnded history id NoSlots
  pub keeps_time : KeepsTime history ids
  pub replayed : (calls : List Answered) × RecallsEach history ids calls × Replays hash calls first_world world

-- The operation may stand behind these ids, and leads from one world to the other.
pub record MayStand (hash : ℕ → ℕ) (history : List Event) (ids : List ℕ) (id : ℕ) (world next : HandleMap) : Type 0 where
  pub is_new : (i : ℕ) → ¬ OrderedAt ids i id
  pub has_begun : HasBegun history id
  pub not_refused : ¬ HasEnded history id NoSlots
  pub on_time : (i other : ℕ) → OrderedAt ids i other → ¬ IsBefore history id other
  pub answered : (one : Answered) × Recalls history id one × Effect hash world one.call one.opens one.answer next
