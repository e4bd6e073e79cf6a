-- A machine at rest, and one in which a single actor takes steps from there.
use Rattle.std.specs.Prelude.{◌≡◌, ℕ, zero, suc, false, Option, Some, None, Ok, Err}
use Rattle.std.proofs.Common.{refl, sym, ap, subst, ◌∙◌}
use Rattle.proof_runs.specs.Vocabulary.{Refusal, Reply, Operation, Outcome, Answer, next, go_denial, go_on, go_unless, is_busy, State, operation_of}
use Rattle.proof_runs.specs.Beneath.ctrie_base.specs.declared.refusals.Refusal.TheVariants as refuse
use Rattle.proof_runs.specs.Beneath.machine_model.specs.declared.steps.Outcome.TheVariants as outcome
use Rattle.proof_runs.specs.Beneath.machine_model.specs.declared.steps.Step.TheVariants as step
use Rattle.proof_runs.specs.Machines.{Taken, state_of, with_step}
use Rattle.proof_runs.specs.Callers.{after_go, after_outcome, going_on}
use Rattle.proof_runs.specs.Beneath.proof_commits.proofs.Resting.{OnlyRuns, idle_behind, none_at, rest_if_idle, still_only}
use Rattle.proof_runs.proofs.Telling.{answered_parts, denied_parts, stepped, unanswered}

-- ---- at rest

-- the end of the one operation leaves rest
abbrev LeadsToRest : ℕ → ℕ → Type 0
LeadsToRest n actor =
    (m after : Taken) (answer : Reply) → OnlyRuns actor (state_of m) → going_on n actor m ≡ (Ok (Some answer), after) → is_busy (state_of after) ≡ false

by_outcome : (n actor : ℕ) (m : Taken) (o : Outcome) (state : State) → next (state_of m) (step.Go actor) ≡ Ok (o, state) → LeadsToRest n actor → (after : Taken) (answer : Reply) →
    OnlyRuns actor state → state_of (with_step m (step.Go actor)) ≡ state → after_outcome (going_on n actor) (with_step m (step.Go actor)) o ≡ (Ok (Some answer), after) →
    is_busy (state_of after) ≡ false
by_outcome n actor m (outcome.Ended id said) state e more after answer only led goes =
    let (same, last) = answered_parts said answer (with_step m (step.Go actor)) after goes in
    subst (λ a. is_busy (state_of a) ≡ false) last (subst (λ s. is_busy s ≡ false) (sym led) (rest_if_idle actor state only (idle_behind (state_of m) actor id said state e)))
by_outcome n actor m (outcome.Began id) state e more after answer only led goes = more (with_step m (step.Go actor)) after answer (subst (OnlyRuns actor) (sym led) only) goes
by_outcome n actor m (outcome.Went kind) state e more after answer only led goes = more (with_step m (step.Go actor)) after answer (subst (OnlyRuns actor) (sym led) only) goes
by_outcome n actor m (outcome.Swept done) state e more after answer only led goes = more (with_step m (step.Go actor)) after answer (subst (OnlyRuns actor) (sym led) only) goes

by_answer : (n actor : ℕ) (m : Taken) (reply : Answer) → next (state_of m) (step.Go actor) ≡ reply → LeadsToRest n actor → (after : Taken) (answer : Reply) → OnlyRuns actor (state_of m) →
    after_go (going_on n actor) m actor reply ≡ (Ok (Some answer), after) → is_busy (state_of after) ≡ false
by_answer n actor m (Ok (o, state)) e more after answer only goes =
    by_outcome n actor m o state e more after answer (still_only actor (state_of m) (step.Go actor) o state e refl only) (stepped m (step.Go actor) o state e) goes
by_answer n actor m (Err why) e more after answer only goes = absurd (denied_parts why answer m after goes)

pub leads_to_rest : (n actor : ℕ) → LeadsToRest n actor
unfolding going_on
leads_to_rest zero actor m after answer only goes = absurd (unanswered answer m after goes)
leads_to_rest (suc n) actor m after answer only goes = by_answer n actor m (next (state_of m) (step.Go actor)) refl (leads_to_rest n actor) after answer only goes

-- ---- a begin that was denied at rest

-- where the actor runs nothing its step is denied
denied_by : (state : State) (actor : ℕ) (denial : Option Refusal) → operation_of state actor ≡ None → (why : Refusal) × (go_unless state actor denial ≡ Err why)
denied_by state actor (Some why) idle = (why, refl)
denied_by state actor None idle = (refuse.Idle, ap (go_on state actor) idle)

idle_denied : (state : State) (actor : ℕ) → operation_of state actor ≡ None → (why : Refusal) × (next state (step.Go actor) ≡ Err why)
unfolding next
idle_denied state actor idle = denied_by state actor (go_denial state actor) idle

idle_at_rest : (state : State) → is_busy state ≡ false → (actor : ℕ) → (found : Option Operation) → operation_of state actor ≡ found → operation_of state actor ≡ None
idle_at_rest state rest actor None is = is
idle_at_rest state rest zero (Some operation) is = refl
idle_at_rest state rest (suc k) (Some operation) is = absurd (none_at state.actors rest k operation is)

-- at rest nothing is answered
pub unanswered_at_rest : (n actor : ℕ) (m after : Taken) (answer : Reply) → is_busy (state_of m) ≡ false → going_on n actor m ≡ (Ok (Some answer), after) → ⊥
unfolding going_on
unanswered_at_rest zero actor m after answer rest goes = unanswered answer m after goes
unanswered_at_rest (suc n) actor m after answer rest goes =
    let (why, denied) = idle_denied (state_of m) actor (idle_at_rest (state_of m) rest actor (operation_of (state_of m) actor) refl) in
    denied_parts why answer m after (sym (ap (after_go (going_on n actor) m actor) denied) ∙ goes)
