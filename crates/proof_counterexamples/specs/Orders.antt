-- Wrong orders of a run's operations.
use Rattle.std.specs.Prelude.{ℕ, true, List, [], ◌∷◌, ◌++◌, map, flat_map, if◌then◌else◌}
use Rattle.proof_counterexamples.specs.Vocabulary.{NoSlots, Event, End, Place, ids_by_place, Record, order_of}
use Rattle.proof_counterexamples.specs.Beneath.history.specs.declared.events.Event.TheVariants.{Begin}

-- the place as of what is never late: by its moment
abbrev pub by_moment : Place → Place
by_moment place = record place { step = place.moment; on_time = true }

-- a change that is committed late stands where it was committed
abbrev pub with_late_commits_at_the_end : Record → List ℕ
with_late_commits_at_the_end past = ids_by_place (map (λ place. if place.changed_nothing then place else by_moment place) past.places)

-- a call that read late in a closed generation, and changed nothing, stands where it read
abbrev pub with_late_reads_at_the_end : Record → List ℕ
with_late_reads_at_the_end past = ids_by_place (map (λ place. if place.changed_nothing then by_moment place else place) past.places)

abbrev pub answered : Event → List ℕ
answered (Begin id actor call opens) = []
answered (End id NoSlots) = []
answered (End id answer) = id ∷ []

-- the operations that were answered, in the order of their ends
abbrev pub by_ends : Record → List ℕ
by_ends past = flat_map answered past.events

abbrev pub refused : Event → List ℕ
refused (End id NoSlots) = id ∷ []
refused event = []

-- those that were refused stand in the order too, behind the others
abbrev pub with_refused : Record → List ℕ
with_refused past = order_of past ++ flat_map refused past.events
