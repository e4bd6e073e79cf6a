-- What is recorded of a run: the history, and what the order of the operations follows from. No step reads it: it is made of what the steps
-- tell, one after the other.
use Rattle.std.specs.Prelude.{ℕ, zero, suc, ◌-◌, ◌==◌, Bool, true, false, max, List, [], ◌∷◌, ◌++◌, find, replicate, slice_index_or, slice_set}
use Rattle.std.specs.Prelude.{Option, Some, None, option_map, option_and_then, option_to_list, if◌then◌else◌}
use Rattle.std.specs.List.{list_any}
use Rattle.history.specs.declared.calls.Access.{Access}
use Rattle.history.specs.declared.calls.Access.TheVariants.{Writable, ReadOnly}
use Rattle.history.specs.declared.calls.Call.{Call}
use Rattle.history.specs.declared.events.Event.{Event}
use Rattle.history.specs.declared.events.Event.TheVariants.{Begin, End}
use Rattle.history.specs.declared.replies.Reply.{Reply}
use Rattle.history.specs.declared.replies.Reply.TheVariants as reply
use Rattle.machine_model.specs.Beneath.slot_arena.specs.declared.refs.Ref.{Ref}
use Rattle.places.specs.declared.place.Place.{Place}
use Rattle.places.specs.Places.{ids_by_place, on_time, place_by}
use Rattle.machine_model.specs.declared.records.Carried.{Carried}
use Rattle.machine_model.specs.declared.records.Closing.{Closing}
use Rattle.machine_model.specs.declared.records.Commit.{Commit}
use Rattle.machine_model.specs.declared.records.Entrant.{Entrant}
use Rattle.machine_model.specs.declared.records.Moment.{Moment}
use Rattle.machine_model.specs.declared.records.Progress.{Progress}
use Rattle.machine_model.specs.declared.records.Publication.{Publication}
use Rattle.machine_model.specs.declared.records.Told.{Told}
use Rattle.machine_model.specs.declared.records.Told.TheVariants as told
use Rattle.machine_model.specs.declared.steps.Bounds.{Bounds}
use Rattle.machine_model.specs.declared.steps.Step.{Step}
use Rattle.machine_model.specs.Calls.{is_close}
use Rattle.machine_model.specs.States.{State, first_state}
use Rattle.machine_model.specs.Machine.{is_taken_step, next, next_state}
use Rattle.machine_model.specs.Tellings.{told_in}

pub record Record : Type 0 where
  -- the history
  pub events : List Event
  -- the commits of main nodes, as they came
  pub commits : List Commit
  -- the generations that were closed, as they were
  pub closings : List Closing
  -- the places of operations in the order, as they came in
  pub places : List Place
  -- of each actor, what is known of the READs of its last operation
  pub moments : List Moment
  -- the main nodes that were to be swapped in, the latest first
  pub published : List Publication

-- of an operation that has read nothing
abbrev pub no_moment : Moment
no_moment = record { read_at = 0; moment = 0 }

abbrev pub first_record : Bounds → Record
first_record limits = record { events = []; commits = []; closings = []; places = []; moments = replicate limits.actors no_moment; published = [] }

-- ---- looking up

abbrev pub step_of : Option Closing → Option ℕ
step_of closing = option_map (λ c. c.step) closing

-- the step that closed a generation, if one did
abbrev pub closed_at : Record → ℕ → Option ℕ
closed_at past generation = step_of (find (λ c. c.generation == generation) past.closings)

abbrev pub step_of_commit : Option Commit → ℕ
step_of_commit None = 0
step_of_commit (Some commit) = commit.step

-- the step in which the main node was committed; 0 where it never was, since it is its indirection's first
abbrev pub committed_at : Record → Ref → ℕ
committed_at past main = step_of_commit (find (λ commit. commit.main == main) past.commits)

-- whose change of its key the main node is, which was to be swapped in
abbrev pub changer_of : Record → Ref → Option Entrant
changer_of past main = option_and_then (λ p. p.changer) (find (λ p. p.main == main) past.published)

-- the operation has a place
abbrev pub is_placed : Record → ℕ → Bool
is_placed past id = list_any (λ place. place.id == id) past.places

-- actors are counted from 1
abbrev pub moment_at : Record → ℕ → Moment
moment_at past zero = no_moment
moment_at past (suc n) = slice_index_or past.moments n no_moment

-- the order: the ids by rising place
abbrev pub order_of : Record → List ℕ
order_of past = ids_by_place past.places

-- ---- places

-- the step that closed a generation, if there is one and it was closed
abbrev pub closed_after : Record → Option ℕ → Option ℕ
closed_after past None = None
closed_after past (Some generation) = closed_at past generation

abbrev pub closing_for : Record → Option ℕ → Access → Option ℕ
closing_for past generation Writable = closed_after past generation
closing_for past generation ReadOnly = None

-- the place of an operation with this moment: on a writable handle it is late where its generation was closed before
abbrev pub place_of : Record → Entrant → ℕ → Bool → Place
place_of past e moment changed_nothing = place_by (closing_for past e.generation e.access) moment changed_nothing e.id

abbrev pub entered_by : Record → ℕ → Option Entrant → List Place
entered_by past step None = []
entered_by past step (Some changer) = place_of past changer step false ∷ []

-- at a commit the operation whose change it is enters the order, whoever takes the step
abbrev pub entered : Record → ℕ → Option Ref → List Place
entered past step None = []
entered past step (Some main) = entered_by past step (changer_of past main)

-- a close enters the order as it begins
abbrev pub entered_at_begin : ℕ → ℕ → Call → List Place
entered_at_begin step id call = if is_close call then on_time step false id ∷ [] else []

-- an operation that was answered and changed nothing enters the order at its end
abbrev pub entered_at_end : Record → Entrant → ℕ → Reply → List Place
entered_at_end past e moment reply.NoSlots = []
entered_at_end past e moment answer = if is_placed past e.id then [] else place_of past e moment true ∷ []

-- where an offer was carried out, whoever offered enters the order, and the old root's generation is closed
abbrev pub placed_by : ℕ → Option Carried → List Place
placed_by step None = []
placed_by step (Some c) = on_time step false c.operation ∷ []

abbrev pub closed_by : ℕ → Option Carried → List Closing
closed_by step None = []
closed_by step (Some c) = record { generation = c.generation; step = step } ∷ []

-- ---- moments

abbrev pub commits_after : Record → ℕ → Option Ref → List Commit
commits_after past step None = past.commits
commits_after past step (Some main) = past.commits ++ record { main = main; step = step } ∷ []

abbrev pub commit_step : Record → ℕ → Ref → Option Ref → ℕ
commit_step past step main None = committed_at past main
commit_step past step main (Some now) = step

-- What a READ gives counts from its last read or swap of the main word on, or from the node's commit, where that is later: by
-- the laws that is the first step, from there on, at which it was the logical main node.
abbrev pub moment_given : Record → ℕ → ℕ → ℕ → Option Ref → Option Ref → ℕ
moment_given past step read_at moment None committed = moment
moment_given past step read_at moment (Some main) committed = max read_at (commit_step past step main committed)

abbrev pub read_at_after : ℕ → Bool → ℕ → ℕ
read_at_after step true before = step
read_at_after step false before = before

-- what is known of an operation's READs after a step of it
abbrev pub moment_after : Record → ℕ → Progress → Moment → Moment
moment_after past step p m =
    let read_at = read_at_after step p.counts m.read_at in
    record { read_at = read_at; moment = moment_given past step read_at m.moment p.given p.committed }

abbrev pub with_moment : Record → ℕ → Moment → List Moment
with_moment past actor m = slice_set past.moments (actor - 1) m

-- ---- what is recorded of a step

abbrev pub noted_begin : Record → ℕ → ℕ → ℕ → Call → Option ℕ → Record
noted_begin past step id actor call opens = record past {
  events = past.events ++ Begin id actor call opens ∷ [];
  places = past.places ++ entered_at_begin step id call;
  moments = with_moment past actor no_moment;
}

abbrev pub noted_progress : Record → ℕ → ℕ → Progress → Record
noted_progress past step actor p = record past {
  commits = commits_after past step p.committed;
  closings = past.closings ++ closed_by step p.carried;
  places = (past.places ++ entered past step p.committed) ++ placed_by step p.carried;
  moments = with_moment past actor (moment_after past step p (moment_at past actor));
  published = option_to_list p.published ++ past.published;
}

abbrev pub noted_end : Record → ℕ → Entrant → Reply → Record
noted_end past actor e answer = record past {
  events = past.events ++ End e.id answer ∷ [];
  places = past.places ++ entered_at_end past e (moment_at past actor).moment answer;
}

-- what is recorded after a step of this number that told this
abbrev pub noted : Record → ℕ → Told → Record
noted past step (told.Began id actor call opens) = noted_begin past step id actor call opens
noted past step (told.Went actor p) = noted_progress past step actor p
noted past step (told.Ended actor e answer) = noted_end past actor e answer
noted past step told.Nothing = past

-- ---- the record of a run

-- what is recorded after a step; of a denied one nothing
abbrev pub next_record : State → Record → Step → Record
next_record state past s = if is_taken_step (next state s) then noted past state.steps (told_in state s) else past

-- what is recorded after these steps
unfoldable pub record_from : State → Record → List Step → Record
record_from state past [] = past
record_from state past (s ∷ steps) = record_from (next_state state s) (next_record state past s) steps

-- the record of a run on these steps
abbrev pub record_of : Bounds → List Step → Record
record_of limits steps = record_from (first_state limits) (first_record limits) steps
