-- The lanes of actors: one for each that has begun something, by rising number.
use Rattle.std.specs.Prelude.{ℕ, zero, suc, Bool, false, ◌==◌, List, [], ◌∷◌, ◌++◌, length, if◌then◌else◌}
use Rattle.std.specs.List.{list_any}
use Rattle.history.specs.declared.events.Event.{Event}
use Rattle.history.specs.declared.events.Event.TheVariants.{Begin, End}

abbrev pub is_begin_of : ℕ → Event → Bool
is_begin_of actor (Begin id who call opens) = who == actor
is_begin_of actor (End id answer) = false

-- whether the actor has begun something
abbrev pub works : List Event → ℕ → Bool
works history actor = list_any (is_begin_of actor) history

-- the actors below this number that have begun something
abbrev pub workers_below : List Event → ℕ → List ℕ
workers_below history zero = []
workers_below history (suc actor) = workers_below history actor ++ (if works history actor then actor ∷ [] else [])

-- the actors that have lanes
unfoldable pub actors_of : List Event → List ℕ
actors_of history = workers_below history 256

-- an actor's lane: how many others have lanes above it
unfoldable pub lane_of : List Event → ℕ → ℕ
lane_of history actor = length (workers_below history actor)
