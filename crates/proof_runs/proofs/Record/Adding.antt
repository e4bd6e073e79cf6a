-- How many places a step adds.
use Rattle.std.proofs.Common.{◌≡◌, ℕ, ◌+◌, ◌≤◌, Bool, true, false, cond, List, [], ◌∷◌, ◌++◌, length, Option, Some, None, refl, sym, ap, subst, arith, append-nil}
use Rattle.std.proofs.lemmas.List.{length-append}
use Rattle.proof_runs.specs.Vocabulary.{Call, Close, Reply, Place, Ref, Action, Outcome, Step, handle_of, run, Moves, Begins, Ends, Sweeps, GivesUp, begun_operation, action_of, State, first_state}
use Rattle.proof_runs.specs.Vocabulary.{committed_now, carried_by, told_in, entrant_of, is_placed, place_of, entered_at_begin, Record, placed_by, noted, record_of, entered_by, changer_of}
use Rattle.proof_runs.specs.Vocabulary.{first_record, moment_at, entered_at_end, entered, Carried, Entrant}
use Rattle.proof_runs.specs.Beneath.history.specs.declared.replies.Reply.TheVariants as reply
use Rattle.proof_runs.specs.Beneath.machine_model.specs.declared.actions.Action.TheVariants as act
use Rattle.proof_runs.specs.Beneath.machine_model.specs.Moves.{Goes}
use Rattle.proof_runs.specs.Beneath.proof_order.proofs.Phases.Quiet.{NoComplete, commits_complete}
use Rattle.proof_runs.specs.Laws.{OnePlaceAStep}
use Rattle.proof_runs.specs.Beneath.machine_model.proofs.Recorded.{record_push, kept_by_notes}
use Rattle.proof_runs.specs.Beneath.machine_model.proofs.Notes.{noted_going, noted_ending}

-- the places grow by one at most
abbrev Grow : List Place → List Place → Type 0
Grow before after = length after ≤ length before + 1

grow_same : (before after : List Place) → after ≡ before → Grow before after
grow_same before after e = omega (arith, ap (λ (ps : List Place). length ps) e)

grow_by : (before new : List Place) → length new ≤ 1 → Grow before (before ++ new)
grow_by before new few = omega (arith, few, length-append before new)

-- what a begin, an end, a commit and an offer that is carried out bring
begun_few : (step id : ℕ) (call : Call) → length (entered_at_begin step id call) ≤ 1
begun_few step id (Close handle) = omega arith
begun_few step id call = omega arith

ended_few : (past : Record) (e : Entrant) (moment : ℕ) (answer : Reply) → length (entered_at_end past e moment answer) ≤ 1
ended_few past e moment reply.NoSlots = omega arith
ended_few past e moment answer = by (is_placed past e.id)
  where
    by : (b : Bool) → length (cond b [] (place_of past e moment true ∷ [])) ≤ 1
    by true = omega arith
    by false = omega arith

changed_few : (past : Record) (step : ℕ) (changer : Option Entrant) → length (entered_by past step changer) ≤ 1
changed_few past step None = omega arith
changed_few past step (Some e) = omega arith

placed_few : (step : ℕ) (carried : Option Carried) → length (placed_by step carried) ≤ 1
placed_few step None = omega arith
placed_few step (Some c) = omega arith

-- who commits carries no offer out
carries_nothing : (state : State) (handle : ℕ) (action : Action) → NoComplete action → carried_by state handle action ≡ None
carries_nothing state handle (act.Complete offer main) none = absurd none
carries_nothing state handle action none = refl

-- so a step that goes on brings one at most
progress_by : (past : Record) (step : ℕ) (committed : Option Ref) (carried : Option Carried) → ((main : Ref) → committed ≡ Some main → carried ≡ None) →
    Grow past.places ((past.places ++ entered past step committed) ++ placed_by step carried)
progress_by past step None carried alone =
    subst (λ ps. Grow past.places (ps ++ placed_by step carried)) (sym (append-nil past.places)) (grow_by past.places (placed_by step carried) (placed_few step carried))
progress_by past step (Some main) carried alone =
    subst (λ c. Grow past.places ((past.places ++ entered past step (Some main)) ++ placed_by step c)) (sym (alone main refl))
    (subst (λ ps. Grow past.places ps) (sym (append-nil (past.places ++ entered past step (Some main))))
    (grow_by past.places (entered past step (Some main)) (changed_few past step (changer_of past main))))

moved_grows : (state : State) (past : Record) (s : Step) (o : Outcome) (after : State) → Moves state s o after → Grow past.places (noted past state.steps (told_in state s)).places
moved_grows state past s o after (Begins {actor} {call} {number} d) =
    grow_by past.places (entered_at_begin state.steps (begun_operation state call number).id call) (begun_few state.steps (begun_operation state call number).id call)
moved_grows state past s o after (Goes {actor} {operation} {action} d is a g) =
    subst (λ (r : Record). Grow past.places r.places) (sym (noted_going state past actor operation action is a g))
    (progress_by past state.steps (committed_now state operation) (carried_by state (handle_of operation.call) (action_of state operation))
    (λ main e. carries_nothing state (handle_of operation.call) (action_of state operation) (commits_complete state operation main e)))
moved_grows state past s o after (Ends {actor} {operation} {answer} d is a) =
    subst (λ (r : Record). Grow past.places r.places) (sym (noted_ending state past actor operation answer is a))
    (grow_by past.places (entered_at_end past (entrant_of operation) (moment_at past actor).moment answer) (ended_few past (entrant_of operation) (moment_at past actor).moment answer))
moved_grows state past s o after (GivesUp d is a) = grow_same past.places past.places refl
moved_grows state past s o after (Sweeps spent) = grow_same past.places past.places refl

pub one_place : OnePlaceAStep
one_place limits steps s =
    subst (λ (r : Record). Grow (record_of limits steps).places r.places) (sym (record_push (first_state limits) (first_record limits) steps s))
    (kept_by_notes (λ state r. Grow (record_of limits steps).places r.places) (run limits steps) (record_of limits steps) s
    (grow_same (record_of limits steps).places (record_of limits steps).places refl) (λ o after m. moved_grows (run limits steps) (record_of limits steps) s o after m))
