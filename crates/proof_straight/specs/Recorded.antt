-- What is recorded of a call that runs alone, by what was before it.
use Rattle.std.specs.Prelude.{ℕ, true, false, max, [], ◌∷◌, ◌++◌, Some, None}
use Rattle.proof_straight.specs.Vocabulary.{Call, Reply, Ref, generation_at, main_at, on_time, Entrant, Moment, begun_operation, Record, committed_at, no_moment, place_of, with_moment, State}
use Rattle.proof_straight.specs.Beneath.history.specs.declared.events.Event.TheVariants as event

-- the call that begins in this state, once it has read this root, as the order knows it
abbrev pub entrant_with : State → Call → Ref → Entrant
entrant_with state call root = record { id = state.begun; access = (begun_operation state call None).access; generation = Some (generation_at state.heap root) }

-- what is known of its READ of this main node, whose main word it read in this step
abbrev pub moment_of : Record → (step : ℕ) → Ref → Moment
moment_of past step main = record { read_at = step; moment = max step (committed_at past main) }

-- the call has begun, and this is known of its READs
abbrev pub with_begun : Record → State → ℕ → Call → Moment → Record
with_begun past state actor call m = record past {
  events = past.events ++ event.Begin state.begun actor call (begun_operation state call None).opens ∷ [];
  moments = with_moment past actor m;
}

-- the call has ended with this answer
abbrev pub with_end : Record → State → Reply → Record
with_end past state answer = record past { events = past.events ++ event.End state.begun answer ∷ [] }

-- the call changed nothing: it counts from when what it read last was the logical main node
abbrev pub unchanged_record : Record → State → ℕ → Call → Ref → (step : ℕ) → Ref → Reply → Record
unchanged_record past state actor call root step main answer =
    let begun = with_begun past state actor call (moment_of past step main) in
    with_end (record begun { places = begun.places ++ place_of past (entrant_with state call root) (moment_of past step main).moment true ∷ [] }) state answer

-- The call changed its key: it read the main node that it was to replace in one step, and committed this one in another, in which it enters the order.
abbrev pub changed_record : Record → State → ℕ → Call → Ref → (read_at commit : ℕ) → Ref → Reply → Record
changed_record past state actor call root read_at commit fresh answer =
    let begun = with_begun past state actor call (record { read_at = read_at; moment = max read_at commit }) in
    with_end (record begun {
      commits = begun.commits ++ record { main = fresh; step = commit } ∷ [];
      places = begun.places ++ place_of past (entrant_with state call root) commit false ∷ [];
      published = record { main = fresh; changer = Some (entrant_with state call root) } ∷ begun.published;
    }) state answer

-- The call copied its handle's map or emptied it: it read the root's main node last in one step, and carried its offer out in another, in which it enters the order
-- and closes the root's generation.
abbrev pub copied_record : Record → State → ℕ → Call → Ref → (read_at step : ℕ) → Reply → Record
copied_record past state actor call root read_at step answer =
    let begun = with_begun past state actor call (moment_of past read_at (main_at state.heap root)) in
    with_end (record begun {
      closings = begun.closings ++ record { generation = generation_at state.heap root; step = step } ∷ [];
      places = begun.places ++ on_time step false state.begun ∷ [];
    }) state answer

-- the call closed its handle, and entered the order as it began
abbrev pub closed_record : Record → State → ℕ → Call → Reply → Record
closed_record past state actor call answer =
    let begun = with_begun past state actor call no_moment in
    with_end (record begun { places = begun.places ++ on_time state.steps false state.begun ∷ [] }) state answer

-- The call took its key out in one step, by a tomb that it committed then, and put the tomb's single into the main node above, which it had read in a second step,
-- by another one that it committed in a third.
abbrev pub contracted_record : Record → State → ℕ → Call → Ref → (commit : ℕ) → Ref → (read_at later : ℕ) → Ref → Reply → Record
contracted_record past state actor call root commit tomb read_at later fresh answer =
    let begun = with_begun past state actor call (record { read_at = read_at; moment = max read_at later }) in
    with_end (record begun {
      commits = (begun.commits ++ record { main = tomb; step = commit } ∷ []) ++ record { main = fresh; step = later } ∷ [];
      places = begun.places ++ place_of past (entrant_with state call root) commit false ∷ [];
      published = record { main = fresh; changer = None } ∷ record { main = tomb; changer = Some (entrant_with state call root) } ∷ begun.published;
    }) state answer
