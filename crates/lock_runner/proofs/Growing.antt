-- Steps are counted, and no event is taken back.
use Rattle.std.specs.Prelude.{◌≡◌, ℕ, ◌+◌, ◌≤◌, List, [], ◌∷◌, length, Ok}
use Rattle.std.proofs.Common.{sym, ap, subst, ◌∙◌, length-append, arith}
use Rattle.lock_runner.specs.Vocabulary.{End, Step, Outcome, State, first_state, bounded, next, next_state, run_from, run, Record, first_record, next_record, noted, record_from, record_of, Told}
use Rattle.lock_runner.specs.Vocabulary.{told_in}
use Rattle.history.specs.declared.events.Event.TheVariants.{Begin}
use Rattle.lock_runner.specs.Beneath.machine_model.specs.declared.records.Told.TheVariants as told
use Rattle.lock_runner.specs.Beneath.machine_model.proofs.Moves.{moved}
use Rattle.lock_runner.specs.Beneath.machine_model.proofs.Recorded.{record-append, kept_by_notes}
use Rattle.lock_runner.specs.Beneath.machine_model.proofs.Along.{run-append, kept_by_moves}
use Rattle.lock_runner.specs.Beneath.machine_model.proofs.Frames.{steps_counted}
use Rattle.lock_runner.specs.Beneath.proof_runs.specs.Machines.{Taken, past_of, state_of}
use Rattle.lock_runner.specs.Boards.{HasFollowed}
use Rattle.lock_runner.specs.Holds.{events_in}

-- one step more, or none
step_grows : (base : ℕ) (state : State) (s : Step) → base ≤ state.steps → base ≤ (next_state state s).steps
step_grows base state s low = kept_by_moves (λ t. base ≤ t.steps) state s low (λ o after m. omega (arith, low, steps_counted state s o after m))

grows : (base : ℕ) (state : State) (steps : List Step) → base ≤ state.steps → base ≤ (run_from state steps).steps
unfolding run_from
grows base state [] low = low
grows base state (s ∷ steps) low = grows base (next_state state s) steps (step_grows base state s low)

pub steps_grow : (actor : ℕ) (seen board : Taken) → HasFollowed actor seen board → (state_of seen).steps ≤ (state_of board).steps
steps_grow actor seen board followed =
    let more = grows (state_of seen).steps (state_of seen) followed.steps.0 (omega arith) in
    let whole : run_from (state_of seen) followed.steps.0 ≡ state_of board =
    sym (run-append (first_state (bounded seen.limits)) seen.steps followed.steps.0) ∙ ap (λ xs. run (bounded seen.limits) xs) (sym followed.steps.1)
    ∙ ap (λ l. run (bounded l) board.steps) (sym followed.limits) in
    subst (λ t. (state_of seen).steps ≤ t.steps) whole more

pub one_step : (board now : Taken) (s : Step) (o : Outcome) → next (state_of board) s ≡ Ok (o, state_of now) → (state_of now).steps ≡ (state_of board).steps + 1
one_step board now s o taken = steps_counted (state_of board) s o (state_of now) (moved (state_of board) s o (state_of now) taken)

-- ---- events

-- one event more, or none
noted_grows : (past : Record) (number : ℕ) (t : Told) → length past.events ≤ length (noted past number t).events
noted_grows past number (told.Began id actor call opens) = omega (arith, length-append past.events (Begin id actor call opens ∷ []))
noted_grows past number (told.Went actor progress) = omega arith
noted_grows past number (told.Ended actor e answer) = omega (arith, length-append past.events (End e.id answer ∷ []))
noted_grows past number told.Nothing = omega arith

recorded_grows : (base : ℕ) (state : State) (past : Record) (steps : List Step) → base ≤ length past.events → base ≤ length (record_from state past steps).events
unfolding record_from
recorded_grows base state past [] low = low
recorded_grows base state past (s ∷ steps) low =
    recorded_grows base (next_state state s) (next_record state past s) steps
    (kept_by_notes (λ t p. base ≤ length p.events) state past s low (λ o after m. omega (arith, low, noted_grows past state.steps (told_in state s))))

pub events_grow : (actor : ℕ) (seen board : Taken) → HasFollowed actor seen board → events_in seen ≤ events_in board
events_grow actor seen board followed =
    let limits = bounded seen.limits in
    let more = recorded_grows (events_in seen) (state_of seen) (past_of seen) followed.steps.0 (omega arith) in
    let whole : record_from (state_of seen) (past_of seen) followed.steps.0 ≡ past_of board =
    sym (record-append (first_state limits) (first_record limits) seen.steps followed.steps.0) ∙ ap (λ xs. record_of limits xs) (sym followed.steps.1)
    ∙ ap (λ l. record_of (bounded l) board.steps) (sym followed.limits) in
    subst (λ (p : Record). events_in seen ≤ length p.events) whole more
