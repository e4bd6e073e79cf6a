-- Runs with what is recorded of them.
use Rattle.std.proofs.Common.{◌≡◌, ℕ, zero, suc, cond, ◌≤◌, List, [], ◌∷◌, ◌++◌, length, Ok, Err, refl, subst, sym, ◌∙◌, arith}
use Rattle.machine_model.specs.declared.steps.Bounds.{Bounds}
use Rattle.machine_model.specs.declared.steps.Outcome.{Outcome}
use Rattle.machine_model.specs.declared.steps.Step.{Step}
use Rattle.machine_model.specs.States.{State, first_state}
use Rattle.machine_model.specs.Machine.{Answer, next, next_state, state_after, is_taken_step, run_from, run, taken_from, taken_steps}
use Rattle.machine_model.specs.Moves.{Moves, MovesIfTaken}
use Rattle.machine_model.specs.Records.{Record, first_record, next_record, noted, record_from, record_of}
use Rattle.machine_model.specs.Tellings.{told_in}
use Rattle.machine_model.specs.Times.{Turn, turns, noted_turn, IsRun, records_from, records_of, last_of}
use Rattle.machine_model.proofs.Along.{by_last, run_push}
use Rattle.machine_model.proofs.Moves.{moves}

-- ---- along a run

-- what holds of the first state and record, and is kept by each move and what is noted of it
abbrev pub KeptByNotes : (State → Record → Type 0) → Type 0
KeptByNotes P = (before : State) (past : Record) (s : Step) (o : Outcome) (after : State) → Moves before s o after → P before past →
    P after (noted past before.steps (told_in before s))

pub at_each_record : {limits : Bounds} {states : ℕ → State} {last : ℕ} (r : IsRun limits states last) (P : State → Record → Type 0) →
    P (first_state limits) (first_record limits) → KeptByNotes P → (t : ℕ) → t ≤ last → P (states t) (r.records t)
at_each_record {limits} {states} {last} r P first keeps zero h =
    subst (λ q. P (states zero) q) (sym r.nothing_recorded) (subst (λ q. P q (first_record limits)) (sym r.first) first)
at_each_record {limits} {states} {last} r P first keeps (suc t) h =
    by_turn P keeps (r.turn t h) (r.recorded t h) (at_each_record r P first keeps t (omega arith))
  where
    by_turn : (P : State → Record → Type 0) → KeptByNotes P → {before after : State} {past now : Record} (turn : Turn before after) → now ≡ noted_turn turn past →
        P before past → P after now
    by_turn P keeps {before} {after} {past} {now} (turns s o m) e p = subst (λ q. P after q) (sym e) (keeps before past s o after m p)

-- ---- how it ends

last_record : (state : State) (past : Record) (steps : List Step) → records_from state past steps (length steps) ≡ record_from state past steps
unfolding records_from record_from
last_record state past [] = refl
last_record state past (s ∷ steps) = last_record (next_state state s) (next_record state past s) steps

taken_record : (state : State) (past : Record) (s : Step) (steps : List Step) (answer : Answer) → next state s ≡ answer →
    record_from (next_state state s) (next_record state past s) (taken_from (next_state state s) steps) ≡ record_from (next_state state s) (next_record state past s) steps →
    record_from state past (taken_from state (s ∷ steps)) ≡ record_from state past (s ∷ steps)
unfolding record_from taken_from
taken_record state past s steps (Ok done) e h = rw e (rw e (rw e at h))
taken_record state past s steps (Err refusal) e h = rw e (rw e at h)

-- the steps that were taken leave the same record
pub record-taken : (state : State) (past : Record) (steps : List Step) → record_from state past (taken_from state steps) ≡ record_from state past steps
unfolding record_from taken_from
record-taken state past [] = refl
record-taken state past (s ∷ steps) = taken_record state past s steps (next state s) refl (record-taken (next_state state s) (next_record state past s) steps)

-- and so it ends
pub record_ends : (limits : Bounds) (steps : List Step) → records_of limits steps (last_of limits steps) ≡ record_of limits steps
record_ends limits steps =
    last_record (first_state limits) (first_record limits) (taken_steps limits steps) ∙ record-taken (first_state limits) (first_record limits) steps

-- ---- induction over lists of steps

pub record-append : (state : State) (past : Record) (xs ys : List Step) → record_from state past (xs ++ ys) ≡ record_from (run_from state xs) (record_from state past xs) ys
unfolding record_from run_from
record-append state past [] ys = refl
record-append state past (x ∷ xs) ys = record-append (next_state state x) (next_record state past x) xs ys

-- the last step of a run
pub record_push : (state : State) (past : Record) (xs : List Step) (s : Step) →
    record_from state past (xs ++ s ∷ []) ≡ next_record (run_from state xs) (record_from state past xs) s
unfolding record_from
record_push state past xs s = record-append state past xs (s ∷ [])

-- what holds of a state and a record, and after each move of what is noted then, holds after a step, be it taken or denied
pub kept_by_notes : (P : State → Record → Type 0) (state : State) (past : Record) (s : Step) → P state past →
    ((o : Outcome) (after : State) → Moves state s o after → P after (noted past state.steps (told_in state s))) → P (next_state state s) (next_record state past s)
kept_by_notes P state past s h each = by (next state s) (moves state s)
  where
    by : (answer : Answer) → MovesIfTaken state s answer →
        P (state_after state answer) (cond (is_taken_step answer) (noted past state.steps (told_in state s)) past)
    by (Ok done) m = each done.0 done.1 m
    by (Err refusal) m = h

-- What holds at first, and is kept by each move and what is noted of it, holds after every run. The steps of that run are given, so that what was shown of
-- all runs before can be used.
pub along_with : (limits : Bounds) (P : State → Record → Type 0) → P (first_state limits) (first_record limits) →
    ((steps : List Step) (s : Step) (o : Outcome) (after : State) → Moves (run limits steps) s o after → P (run limits steps) (record_of limits steps) →
    P after (noted (record_of limits steps) (run limits steps).steps (told_in (run limits steps) s))) →
    (steps : List Step) → P (run limits steps) (record_of limits steps)
unfolding run_from record_from
along_with limits P first keeps steps =
    by_last (λ xs. P (run limits xs) (record_of limits xs)) first
    (λ xs s h. subst (λ q. P q (record_of limits (xs ++ s ∷ []))) (sym (run_push (first_state limits) xs s))
    (subst (λ q. P (next_state (run limits xs) s) q) (sym (record_push (first_state limits) (first_record limits) xs s))
    (kept_by_notes P (run limits xs) (record_of limits xs) s h (λ o after m. keeps xs s o after m h)))) steps
