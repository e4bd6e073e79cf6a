-- What is drawn of a history and an order: a bar for each operation, from its begin to its end, in its actor's lane.
use Rattle.std.specs.Prelude.{◌≡◌, ℕ, ◌<◌, ◌++◌, List, length, Option, Some, None, slice_get}
use Rattle.std.specs.Option.{option_map}
use Rattle.std.specs.Prelude.{String}
use Rattle.std.specs.String.{string_bytes}
use Rattle.std.specs.declared.alloc.Global.{Global}
use Rattle.history.specs.declared.replies.Reply.{Reply}
use Rattle.history.specs.declared.events.Event.{Event}
use Rattle.history.specs.declared.faults.OrderFault.{OrderFault}
use Rattle.history.specs.Histories.{Operation, BeginsAt, EndsAt, HasEnded, begun}
use Rattle.history.specs.Faults.{Judges}
use Rattle.history_text.specs.Texts.{call_text, opens_words, reply_text, behind_spaces}
use Rattle.history_text.specs.FaultTexts.{fault_text}
use Rattle.history_scene.specs.declared.scenes.Bar.{Bar}
use Rattle.history_scene.specs.declared.scenes.Scene.{Scene}
use Rattle.history_scene.specs.Lanes.{actors_of, lane_of}
use Rattle.history_scene.specs.Stands.{IsStand}
use Rattle.history_scene.specs.Colours.{colour_of}

-- the event that ends the operation, and its reply, if it has ended
abbrev pub Ends : List Event → ℕ → Option ℕ → Option Reply → Type 0
Ends history id None None = (answer : Reply) → ¬ HasEnded history id answer
Ends history id (Some end) (Some answer) = EndsAt history end id answer
Ends history id end answer = ⊥

-- the text of a string that may be there
abbrev pub text_in : Option (String Global) → Option (List ℕ)
text_in None = None
text_in (Some text) = Some (string_bytes text)

-- The bar of an operation: its ends are the operation's events, and its label is the operation's call, with the
-- handle that it opens, and its reply.
pub record IsBar (history : List Event) (order : List ℕ) (fault : Option OrderFault) (id : ℕ) (bar : Bar) : Type 0 where
  pub operation : Operation
  pub answer : Option Reply
  pub shows : bar.id ≡ id
  pub actor : bar.actor ≡ operation.actor
  pub begins : BeginsAt history bar.from id operation
  pub ends : Ends history id bar.to answer
  pub lane : bar.lane ≡ lane_of history operation.actor
  pub call : string_bytes bar.call ≡ call_text operation.call ++ behind_spaces (opens_words operation.opens)
  pub reply : text_in bar.reply ≡ option_map reply_text answer
  pub stand : IsStand history order id bar.to bar.stand
  pub colour : bar.colour ≡ colour_of fault id operation.call answer

-- the bars of all operations that have begun, by their ids
abbrev pub AreBars : List Event → List ℕ → Option OrderFault → List Bar → Type 0
AreBars history order fault bars =
    (length bars ≡ begun history) × ((id : ℕ) (bar : Bar) → slice_get bars id ≡ Some bar → IsBar history order fault id bar)

-- by each actor's number its lane
abbrev pub IsLaneTable : List Event → List ℕ → Type 0
IsLaneTable history lanes = (actor : ℕ) → actor < 256 → slice_get lanes actor ≡ Some (lane_of history actor)

-- The scene of a history and an order.
pub record IsScene (hash : ℕ → ℕ) (history : List Event) (order : List ℕ) (scene : Scene) : Type 0 where
  pub fault : Option OrderFault
  pub judged : Judges hash history order fault
  pub reason : text_in scene.reason ≡ option_map fault_text fault
  pub size : scene.events ≡ length history
  pub actors : scene.actors.items ≡ actors_of history
  pub bars : AreBars history order fault scene.bars.items
  pub line : scene.order.items ≡ order
