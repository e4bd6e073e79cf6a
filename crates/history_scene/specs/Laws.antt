-- A law of scenes.
use Rattle.std.specs.Prelude.{◌≡◌, ℕ, List, Some, None, slice_get}
use Rattle.history.specs.declared.replies.Reply.{Reply}
use Rattle.history.specs.declared.events.Event.{Event}
use Rattle.history.specs.Histories.{Operation, BeginsAt, EndsAt, HasEnded, IsWellFormed}
use Rattle.history_scene.specs.declared.scenes.Bar.{Bar}
use Rattle.history_scene.specs.declared.scenes.Scene.{Scene}
use Rattle.history_scene.specs.Scenes.{IsScene}

-- the bar goes from the operation's begin to its end, and is open where the operation hasn't ended
pub record HasItsEnds (history : List Event) (id begin : ℕ) (bar : Bar) : Type 0 where
  pub from : bar.from ≡ begin
  pub to : (end : ℕ) (answer : Reply) → EndsAt history end id answer → bar.to ≡ Some end
  pub open_end : ((answer : Reply) → ¬ HasEnded history id answer) → bar.to ≡ None

-- the operation, which begins at this event, has exactly one bar, from its begin to its end
abbrev pub HasOneBar : List Event → ℕ → ℕ → Scene → Type 0
HasOneBar history id begin scene =
    (bar : Bar) × (place : ℕ) × (slice_get scene.bars.items place ≡ Some bar) × (bar.id ≡ id) × HasItsEnds history id begin bar
    × ((other : ℕ) (more : Bar) → slice_get scene.bars.items other ≡ Some more → more.id ≡ id → other ≡ place)

-- in a scene of a well-formed history each operation that has begun has exactly one bar, and the bar has its ends
abbrev pub HasEachOperation : Type 0
HasEachOperation =
    (hash : ℕ → ℕ) (history : List Event) (order : List ℕ) (scene : Scene) (id begin : ℕ) (operation : Operation)
    → IsWellFormed history → IsScene hash history order scene → BeginsAt history begin id operation → HasOneBar history id begin scene
