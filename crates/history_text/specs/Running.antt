-- Which operations run, and what a begin and an end must say then.
use Rattle.std.specs.Prelude.{ℕ, ◌++◌, Bool, not, List, [], ◌∷◌, Result, Err, ◌==◌, filter, fold}
use Rattle.std.specs.List.{list_any}
use Rattle.ctrie_base.specs.declared.refusals.Refusal.{Refusal}
use Rattle.ctrie_base.specs.declared.refusals.Refusal.TheVariants.{BadLine}
use Rattle.history.specs.declared.events.Event.{Event}
use Rattle.history.specs.declared.events.Event.TheVariants.{Begin, End}
use Rattle.history.specs.Histories.{begun}
use Rattle.text_lines.specs.Words.{both, made}
use Rattle.history_text.specs.Words.{value_word, actor_word, passing}
use Rattle.history_text.specs.Lines.{call_of, reply_of}

-- the operations that run, as pairs of an id and an actor, with one event more
abbrev pub with_event : List (ℕ × ℕ) → Event → List (ℕ × ℕ)
with_event running (Begin id actor call opens) = running ++ (id, actor) ∷ []
with_event running (End id answer) = filter (λ one. not (one.0 == id)) running

-- the operations that run after these events
abbrev pub running : List Event → List (ℕ × ℕ)
running events = fold with_event [] events

abbrev pub is_running : List Event → ℕ → Bool
is_running events id = list_any (λ one. one.0 == id) (running events)

abbrev pub is_busy : List Event → ℕ → Bool
is_busy events actor = list_any (λ one. one.1 == actor) (running events)

-- the id of the next begin
abbrev pub next_id : List Event → List ℕ → Result ℕ Refusal
next_id events word = passing (λ id. id == begun events) (value_word word)

-- an actor that runs nothing
abbrev pub idle_actor : List Event → List ℕ → Result ℕ Refusal
idle_actor events word = passing (λ actor. not (is_busy events actor)) (actor_word word)

-- the id of an operation that runs
abbrev pub running_id : List Event → List ℕ → Result ℕ Refusal
running_id events word = passing (λ id. is_running events id) (value_word word)

-- what the words behind `begin` and behind `end` say
abbrev pub begin_from : List Event → List ℕ → List ℕ → List (List ℕ) → Result Event Refusal
begin_from events id actor call = made (λ x. Begin x.0 x.1.0 x.1.1.0 x.1.1.1) (both (next_id events id) (both (idle_actor events actor) (call_of call)))

unfoldable pub begin_of : List Event → List (List ℕ) → Result Event Refusal
begin_of events (id ∷ actor ∷ call) = begin_from events id actor call
begin_of events other = Err BadLine

unfoldable pub end_of : List Event → List (List ℕ) → Result Event Refusal
end_of events (id ∷ answer) = made (λ x. End x.0 x.1) (both (running_id events id) (reply_of answer))
end_of events other = Err BadLine
