-- What a run of a script reports.
use Rattle.std.specs.Prelude.{ℕ, List, [], ◌∷◌, ◌++◌, length, drop, Option, Some, None, codes}
use Rattle.std.specs.List.{flat_map}
use Rattle.std.specs.Fmt.{decimal}
use Rattle.script_commands.specs.Vocabulary.{Refusal, HashKind, number_of, Event, in_use, order_of}
use Rattle.ctrie_base.specs.Refusals.{name_of}
use Rattle.ctrie_base.specs.Hashes as hashes
use Rattle.text_lines.specs.Words.{spaced}
use Rattle.history_text.specs.Texts.{event_text, order_text}
use Rattle.step_machine.specs.declared.records.Record.{Record}
use Rattle.script_text.specs.declared.commands.Command.{Command}
use Rattle.script_text.specs.declared.commands.Command.TheVariants.{Begin, Go, Until, Finish, Do, Sweep}
use Rattle.script_text.specs.Reading.{Reading}
use Rattle.script_text.specs.Steps.{denial_of, all_steps}
use Rattle.script_commands.specs.Recorded.{Recorded, after_line, first_recorded, recorded_from}

-- each line of a report ends with a line feed
abbrev pub line : List ℕ → List ℕ
line text = text ++ 10 ∷ []

-- the first line
abbrev pub hash_text : HashKind → List ℕ
hash_text hash = spaced (codes "hash" ∷ hashes.name_of hash ∷ [])

-- a denied line of the script
abbrev pub denied_text : ℕ → Refusal → List ℕ
denied_text actor refusal = spaced (codes "denied" ∷ decimal actor ∷ decimal (number_of refusal) ∷ name_of refusal ∷ [])

-- how many slots are in use, free and in limbo
abbrev pub slots_text : ℕ → ℕ → ℕ → List ℕ
slots_text used free limbo =
    spaced (codes "slots" ∷ codes "used" ∷ decimal used ∷ codes "free" ∷ decimal free ∷ codes "limbo" ∷ decimal limbo ∷ [])

-- a line for each of these events
abbrev pub event_lines : List Event → List ℕ
event_lines events = flat_map (λ event. line (event_text event)) events

-- the actor that a line names; a sweep names none
abbrev pub actor_of : Command → ℕ
actor_of (Begin actor call) = actor
actor_of (Go actor times) = actor
actor_of (Until actor kind) = actor
actor_of (Finish actor) = actor
actor_of (Do actor call) = actor
actor_of (Sweep times) = 0

-- what a line of the script tells: that it is denied, or else the events that it adds
abbrev pub told_by : Option Refusal → ℕ → List Event → List ℕ
told_by (Some refusal) actor added = line (denied_text actor refusal)
told_by None actor added = event_lines added

-- the events of a line of the script
abbrev pub added_events : Recorded → Command → List Event
added_events before command = drop (length before.past.events) (after_line before command).past.events

abbrev pub told : Recorded → Command → List ℕ
told before command = told_by (denial_of before.state command) (actor_of command) (added_events before command)

-- what these lines of the script tell, one after the other
unfoldable pub all_told : Recorded → List Command → List ℕ
all_told before [] = []
all_told before (command ∷ more) = told before command ++ all_told (after_line before command) more

-- the last lines: the order and the slots; and those after a run
abbrev pub end_lines : List ℕ → ℕ → ℕ → ℕ → List ℕ
end_lines order used free limbo = line (order_text order) ++ line (slots_text used free limbo)

abbrev pub last_lines : Recorded → List ℕ
last_lines last = end_lines (order_of last.past) (length (in_use last.state.heap)) (length last.state.heap.free) (length last.state.limbo)

-- the state after the steps that all lines of the script name, and what is recorded of them
abbrev pub last_of : Reading → Recorded
last_of script = recorded_from (first_recorded script.limits) (all_steps (first_recorded script.limits).state script.lines)

-- the report
unfoldable pub report : Reading → List ℕ
report script = line (hash_text script.limits.hash) ++ (all_told (first_recorded script.limits) script.lines ++ last_lines (last_of script))

-- a line for each denial of an actor
abbrev pub denied_lines : ℕ → List Refusal → List ℕ
denied_lines actor denied = flat_map (λ refusal. line (denied_text actor refusal)) denied

-- the report of a record, with these lines behind the events
abbrev pub record_report : Record → List ℕ → List ℕ
record_report made denied =
    line (hash_text made.limits.hash) ++ (event_lines made.events.items ++ (denied ++ end_lines made.order.items made.used made.free made.limbo))
