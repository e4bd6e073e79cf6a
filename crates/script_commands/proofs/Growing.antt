-- What the steps of a script's line do to the history: it only grows, and a line that is denied adds nothing.
use Rattle.std.proofs.Common.{◌≡◌, ℕ, zero, suc, Bool, true, false, cond, List, [], ◌∷◌, ◌++◌, length, drop, Option, Some, None, Ok, Err, refl, sym, ap, ◌∙◌, append_assoc}
use Rattle.std.proofs.lemmas.List.{drop_at}
use Rattle.script_commands.specs.Vocabulary.{Kind, Refusal, Call, Event, Step, State, Answer, next, run_from, next_kind, begin_denial, begin_unless, go_denial, go_unless, MovesIfTaken, record_from}
use Rattle.script_commands.specs.Beneath.machine_model.specs.declared.steps.Step.TheVariants as step
use Rattle.script_commands.specs.Beneath.machine_model.proofs.Moves.{moves}
use Rattle.script_commands.specs.Beneath.proof_order.proofs.History.Growing.{Grows, grows_same, grows_trans, events_grow}
use Rattle.script_text.specs.declared.commands.Command.{Command}
use Rattle.script_text.specs.declared.commands.Command.TheVariants.{Begin, Go, Until, Finish, Do, Sweep}
use Rattle.script_text.specs.Steps.{stops, going, doing, steps_of, denial_of}
use Rattle.script_commands.specs.Recorded.{Recorded, after_line, recorded_from, recorded_next}

-- ---- steps

one_grows : (before : Recorded) (s : Step) (answer : Answer) → next before.state s ≡ answer → MovesIfTaken before.state s answer →
    Grows before.past.events (recorded_next before s).past.events
one_grows before s (Ok done) e m = rw e (events_grow before.state before.past s done.0 done.1 m)
one_grows before s (Err refusal) e m = rw e (grows_same before.past.events before.past.events refl)

pub all_grow : (before : Recorded) (steps : List Step) → Grows before.past.events (recorded_from before steps).past.events
unfolding run_from record_from
all_grow before [] = grows_same before.past.events before.past.events refl
all_grow before (s ∷ steps) =
    let one = recorded_next before s in
    grows_trans before.past.events one.past.events (recorded_from one steps).past.events (one_grows before s (next before.state s) refl (moves before.state s)) (all_grow one steps)

-- what the first steps and those behind them add
pub added_split : (xs ys zs : List Event) → Grows xs ys → Grows ys zs → drop (length xs) zs ≡ drop (length xs) ys ++ drop (length ys) zs
added_split xs ys zs (a, p) (b, q) =
    let first : drop (length xs) ys ≡ a = ap (drop (length xs)) p ∙ drop_at xs a (length xs) refl in
    let second : drop (length ys) zs ≡ b = ap (drop (length ys)) q ∙ drop_at ys b (length ys) refl in
    ap (drop (length xs)) (q ∙ ap (λ l. l ++ b) p ∙ append_assoc xs a b) ∙ drop_at xs (a ++ b) (length xs) refl
    ∙ sym (ap (λ l. l ++ drop (length ys) zs) first ∙ ap (λ l. a ++ l) second)

-- ---- a line that is denied

-- a step that is denied leaves the state, and what is recorded
pub denied_step : (before : Recorded) (s : Step) (refusal : Refusal) → next before.state s ≡ Err refusal → recorded_next before s ≡ before
denied_step before s refusal e = rw e refl

begin_denied : (state : State) (actor : ℕ) (call : Call) (refusal : Refusal) → begin_denial state actor call None ≡ Some refusal → next state (step.Begin actor call None) ≡ Err refusal
unfolding next
begin_denied state actor call refusal e = ap (λ d. begin_unless state actor call None d) e

go_denied : (state : State) (actor : ℕ) (refusal : Refusal) → go_denial state actor ≡ Some refusal → next state (step.Go actor) ≡ Err refusal
unfolding next
go_denied state actor refusal e = ap (λ d. go_unless state actor d) e

begin_refused : (before : Recorded) (actor : ℕ) (call : Call) (refusal : Refusal) → begin_denial before.state actor call None ≡ Some refusal →
    recorded_next before (step.Begin actor call None) ≡ before
begin_refused before actor call refusal e = denied_step before (step.Begin actor call None) refusal (begin_denied before.state actor call refusal e)

go_refused : (before : Recorded) (actor : ℕ) (refusal : Refusal) → go_denial before.state actor ≡ Some refusal → recorded_next before (step.Go actor) ≡ before
go_refused before actor refusal e = denied_step before (step.Go actor) refusal (go_denied before.state actor refusal e)

stopped_or_denied : (b : Bool) (n : ℕ) (wanted : Option Kind) (actor : ℕ) (before : Recorded) → recorded_next before (step.Go actor) ≡ before →
    recorded_from before (going n wanted actor before.state) ≡ before →
    recorded_from before (cond b [] (step.Go actor ∷ going n wanted actor (recorded_next before (step.Go actor)).state)) ≡ before
unfolding run_from record_from
stopped_or_denied true n wanted actor before same rest = refl
stopped_or_denied false n wanted actor before same rest = ap (λ (r : Recorded). recorded_from r (going n wanted actor r.state)) same ∙ rest

going_denied : (n : ℕ) (wanted : Option Kind) (actor : ℕ) (before : Recorded) → recorded_next before (step.Go actor) ≡ before → recorded_from before (going n wanted actor before.state) ≡ before
unfolding going run_from record_from
going_denied zero wanted actor before same = refl
going_denied (suc n) wanted actor before same = stopped_or_denied (stops wanted (next_kind before.state actor)) n wanted actor before same (going_denied n wanted actor before same)

doing_denied : (before : Recorded) (actor : ℕ) (begins : Step) (denial : Option Refusal) (refusal : Refusal) → denial ≡ Some refusal → recorded_next before begins ≡ before →
    recorded_from before (doing actor begins denial before.state) ≡ before
unfolding run_from record_from
doing_denied before actor begins (Some why) refusal e same = same
doing_denied before actor begins None refusal e same = cc e

pub denied_changes_nothing : (before : Recorded) (command : Command) (refusal : Refusal) → denial_of before.state command ≡ Some refusal → after_line before command ≡ before
unfolding denial_of steps_of run_from record_from
denied_changes_nothing before (Begin actor call) refusal e = begin_refused before actor call refusal e
denied_changes_nothing before (Go actor times) refusal e = going_denied times None actor before (go_refused before actor refusal e)
denied_changes_nothing before (Until actor kind) refusal e = going_denied _ (Some kind) actor before (go_refused before actor refusal e)
denied_changes_nothing before (Finish actor) refusal e = going_denied _ None actor before (go_refused before actor refusal e)
denied_changes_nothing before (Do actor call) refusal e =
    doing_denied before actor (step.Begin actor call None) (begin_denial before.state actor call None) refusal e (begin_refused before actor call refusal e)
denied_changes_nothing before (Sweep times) refusal e = cc e
