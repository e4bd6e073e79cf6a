-- A line of a script adds two events at most.
use Rattle.std.proofs.Common.{◌≡◌, ℕ, zero, suc, ◌+◌, ◌≤◌, Bool, true, false, cond, ◌⊎◌, inl, inr, List, [], ◌∷◌, ◌++◌, length, Option, Some, None, Ok, Err, refl, sym, ap, ◌∙◌, length-append, arith}
use Rattle.std.specs.Prelude.{replicate, option_map}
use Rattle.script_commands.specs.Vocabulary.{Kind, Refusal, Event, Operation, Outcome, Step, State, operation_of, action_of, kind_of, Answer, next, run_from, next_kind, begin_denial, Begins, Ends}
use Rattle.script_commands.specs.Vocabulary.{Sweeps, GivesUp, Moves, MovesIfTaken, go_limit, Record, noted, record_from, told_in}
use Rattle.history.proofs.Places.{option_unfound}
use Rattle.script_commands.specs.Beneath.machine_model.specs.declared.steps.Step.TheVariants as step
use Rattle.script_commands.specs.Beneath.machine_model.proofs.Moves.{moves}
use Rattle.script_commands.specs.Beneath.machine_model.specs.Moves.{Goes}
use Rattle.script_commands.specs.Beneath.machine_model.proofs.Actors.{of_end}
use Rattle.script_commands.specs.Beneath.proof_generations.proofs.Handles.Running.{place_of_actor}
use Rattle.script_commands.specs.Beneath.machine_model.proofs.Notes.{noted_going}
use Rattle.script_commands.specs.Beneath.proof_order.proofs.History.Recalling.{end_event}
use Rattle.script_commands.specs.Recorded.{Recorded, after_line, recorded_from, recorded_next}
use Rattle.script_text.specs.declared.commands.Command.{Command}
use Rattle.script_text.specs.declared.commands.Command.TheVariants.{Begin, Go, Until, Finish, Do, Sweep}
use Rattle.script_text.specs.Steps.{stops, going, doing, steps_of}
use Rattle.script_commands.proofs.Carrying.{going_stops}

-- no more events than so many are added
abbrev Adds : ℕ → Recorded → Recorded → Type 0
Adds most before after = length after.past.events ≤ length before.past.events + most

one_more : (xs ys : List Event) (event : Event) → ys ≡ xs ++ event ∷ [] → length ys ≤ length xs + 1
one_more xs ys event e = omega (arith, ap length e, length-append xs (event ∷ []))

none_more : (xs ys : List Event) → ys ≡ xs → length ys ≤ length xs + 1
none_more xs ys e = omega (arith, ap length e)

-- ---- one step

-- what is told of a step
abbrev told_behind : State → Record → Step → List Event
told_behind state past s = (noted past state.steps (told_in state s)).events

move_adds : (state : State) (past : Record) (s : Step) (o : Outcome) (after : State) → Moves state s o after → length (told_behind state past s) ≤ length past.events + 1
move_adds state past s o after (Begins {actor} {call} {number} d) = one_more past.events _ _ refl
move_adds state past s o after (Goes {actor} {operation} {action} d is a g) = none_more past.events _ (ap (λ (r : Record). r.events) (noted_going state past actor operation action is a g))
move_adds state past s o after (Ends {actor} {operation} {answer} d is a) = one_more past.events _ _ (end_event state past actor operation answer is a)
move_adds state past s o after (GivesUp d is a) = none_more past.events _ refl
move_adds state past s o after (Sweeps spent) = none_more past.events _ refl

step_adds : (before : Recorded) (s : Step) (answer : Answer) → next before.state s ≡ answer → MovesIfTaken before.state s answer → Adds 1 before (recorded_next before s)
step_adds before s (Ok done) e m = rw e (move_adds before.state before.past s done.0 done.1 m)
step_adds before s (Err refusal) e m = rw e (omega arith)

swept_once : (before : Recorded) (answer : Answer) → next before.state step.Sweep ≡ answer → (recorded_next before step.Sweep).past.events ≡ before.past.events
swept_once before (Ok done) e = rw e refl
swept_once before (Err refusal) e = rw e refl

sweeps_add_none : (times : ℕ) (before : Recorded) → (recorded_from before (replicate times step.Sweep)).past.events ≡ before.past.events
unfolding run_from record_from
sweeps_add_none zero before = refl
sweeps_add_none (suc times) before = sweeps_add_none times (recorded_next before step.Sweep) ∙ swept_once before (next before.state step.Sweep) refl

-- ---- an operation goes on, up to its end

-- nothing is told, or the operation has ended
abbrev QuietOrEnded : State → List Event → List Event → ℕ → Type 0
QuietOrEnded after events told actor = (told ≡ events) ⊎ ((length told ≤ length events + 1) × (operation_of after actor ≡ None))

by_move : (state : State) (past : Record) (s : Step) (o : Outcome) (after : State) → Moves state s o after → (actor : ℕ) → s ≡ step.Go actor →
    QuietOrEnded after past.events (told_behind state past s) actor
by_move state past s o after (Begins d) actor e = cc e
by_move state past s o after (Goes {actor = own} {operation} {action} d is a g) actor e =
    inl (ap (λ (r : Record). r.events) (noted_going state past own operation action is a g))
by_move state past s o after (Ends {actor = own} {operation} {answer} d is a) actor e =
    let (k, place, runs) = place_of_actor state own operation is in
    let same : actor ≡ suc k = let whose : own ≡ actor = cc e in sym whose ∙ place in
    inr (
      one_more past.events _ _ (end_event state past own operation answer is a),
      ap (operation_of after) same ∙ option_unfound (operation_of after (suc k)) (λ found at. of_end state own k place found at),
    )
by_move state past s o after (GivesUp d is a) actor e = cc e
by_move state past s o after (Sweeps spent) actor e = cc e

by_answer : (before : Recorded) (actor : ℕ) (answer : Answer) → next before.state (step.Go actor) ≡ answer → MovesIfTaken before.state (step.Go actor) answer →
    let after = recorded_next before (step.Go actor) in QuietOrEnded after.state before.past.events after.past.events actor
by_answer before actor (Ok done) e m = rw e (by_move before.state before.past (step.Go actor) done.0 done.1 m actor refl)
by_answer before actor (Err refusal) e m = rw e (inl refl)

-- where no operation runs nothing goes on
idle_stays : (left : ℕ) (wanted : Option Kind) (actor : ℕ) (state : Recorded) → operation_of state.state actor ≡ None → recorded_from state (going left wanted actor state.state) ≡ state
idle_stays left wanted actor state idle =
    going_stops left wanted actor state (ap (λ o. stops wanted (option_map (λ (operation : Operation). kind_of (action_of state.state operation)) o)) idle)

stopped_or_on : (b : Bool) (left : ℕ) (wanted : Option Kind) (actor : ℕ) (state : Recorded) → ((s : Recorded) → Adds 1 s (recorded_from s (going left wanted actor s.state))) →
    Adds 1 state (recorded_from state (cond b [] (step.Go actor ∷ going left wanted actor (recorded_next state (step.Go actor)).state)))
unfolding run_from record_from
stopped_or_on true left wanted actor state later = omega arith
stopped_or_on false left wanted actor state later =
    let after = recorded_next state (step.Go actor) in
    elim (by_answer state actor (next state.state (step.Go actor)) refl (moves state.state (step.Go actor))) [
      | inl quiet ↦ omega (arith, later after, ap length quiet)
      | inr done ↦ omega (arith, done.0, ap (λ (s : Recorded). length s.past.events) (idle_stays left wanted actor after done.1))
    ]

going_adds : (left : ℕ) (wanted : Option Kind) (actor : ℕ) (state : Recorded) → Adds 1 state (recorded_from state (going left wanted actor state.state))
unfolding going run_from record_from
going_adds zero wanted actor state = omega arith
going_adds (suc left) wanted actor state = stopped_or_on (stops wanted (next_kind state.state actor)) left wanted actor state (going_adds left wanted actor)

doing_adds : (state : Recorded) (actor : ℕ) (begins : Step) (denial : Option Refusal) → Adds 2 state (recorded_from state (doing actor begins denial state.state))
unfolding run_from record_from
doing_adds state actor begins (Some refusal) = omega (arith, step_adds state begins (next state.state begins) refl (moves state.state begins))
doing_adds state actor begins None =
    omega (arith, step_adds state begins (next state.state begins) refl (moves state.state begins), going_adds go_limit None actor (recorded_next state begins))

-- ---- a line

pub line_adds : (state : Recorded) (command : Command) → length (after_line state command).past.events ≤ length state.past.events + 2
unfolding steps_of run_from record_from
line_adds state (Begin actor call) = omega (arith, step_adds state (step.Begin actor call None) (next state.state (step.Begin actor call None)) refl (moves state.state (step.Begin actor call None)))
line_adds state (Go actor times) = omega (arith, going_adds times None actor state)
line_adds state (Until actor kind) = omega (arith, going_adds go_limit (Some kind) actor state)
line_adds state (Finish actor) = omega (arith, going_adds go_limit None actor state)
line_adds state (Do actor call) = doing_adds state actor (step.Begin actor call None) (begin_denial state.state actor call None)
line_adds state (Sweep times) = omega (arith, ap length (sweeps_add_none times state))
