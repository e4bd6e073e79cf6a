-- What a step tells may be told, and what is recorded then.
use Rattle.std.proofs.Common.{arith, ◌≡◌, ◌⊎◌, inl, inr, ◌≤◌, ℕ, true, List, Option, Some, None, Result, Ok, Err, refl, sym, ap, subst, ◌∙◌}
use Rattle.std.specs.Prelude.{unwrap_or}
use Rattle.step_machine.specs.Vocabulary.{Refusal, Call, Reply, Action, Operation, Entrant, Progress, Told, Limits, Outcome, Step, bounded, begin_denial, denial_of, is_actor, is_taken_step, next}
use Rattle.step_machine.specs.Vocabulary.{action_of, Record, next_record, noted, State, operation_of, entrant_of, progress_of, told_by, told_in, told_of}
use Rattle.ctrie_base.specs.declared.refusals.Refusal.TheVariants as refuse
use Rattle.machine_model.specs.declared.actions.Action.TheVariants as act
use Rattle.machine_model.specs.declared.records.Told.TheVariants as told
use Rattle.machine_model.specs.declared.steps.Step.TheVariants as step
use Rattle.chronicle.specs.Chronicled.{CanBegin, CanEnd, CanGo, Chronicled}
use Rattle.machine_core.specs.declared.telling.Begun.{Begun}
use Rattle.machine_core.specs.declared.telling.Ended.{Ended}
use Rattle.machine_core.specs.declared.telling.Stepped.{Stepped}
use Rattle.machine_core.specs.Told.{TellsBegin, TellsEnd, TellsStep}
use Rattle.proof_runs.specs.Tellings.{CanTell, TellingsFit}
use Rattle.step_machine.specs.Beneath.proof_core.specs.Bounds.{Answers, Applies}
use Rattle.step_machine.specs.Taking.{HasTaken, TakesAndTells}
use Rattle.machine_core.proofs.Steps.{denied}
use Rattle.step_machine.proofs.Denials.{allowed, never_memory, not_for_memory}
use Rattle.proof_runs.proofs.Bounds.{in_bounds}

-- ---- what may be told

pub can_tell : TellingsFit → (limits : Limits) (steps : List Step) (state : State) (past now : Chronicled) → HasTaken limits steps state past → now.past ≡ past.past → now.slots ≡ past.slots →
    state.generations ≤ now.generations → CanTell state now
can_tell fit limits steps state past now h same slots room =
    subst (λ (s : State). CanTell s now) (sym h.led)
    (fit (bounded limits) steps now (in_bounds limits h.in_range)
    (record { past = same ∙ h.past; slots = slots ∙ h.slots; generations = subst (λ (s : State). s.generations ≤ now.generations) h.led room }))

-- a begin that isn't denied is of an actor
begins_own : (state : State) (actor : ℕ) (call : Call) → begin_denial state actor call None ≡ None → is_actor state actor ≡ true
begins_own state actor call d = grind arith

pub can_begin : (state : State) (kept : Chronicled) (actor : ℕ) (call : Call) (begun : Begun) (o : Outcome) (after : State) → CanTell state kept →
    next state (step.Begin actor call None) ≡ Ok (o, after) → TellsBegin state actor call begun →
    CanBegin kept actor begun.id
can_begin state kept actor call begun o after can takes tells =
    let id : state.begun ≡ begun.id = cc tells in
    subst (CanBegin kept actor) id (can.begins actor (begins_own state actor call (allowed state (step.Begin actor call None) (rw takes refl))))

-- what tells of a step that goes on is a running operation's
went_by : (state : State) (actor : ℕ) (operation : Operation) (action : Action) (p : Progress) → told_by state actor operation action ≡ told.Went actor p → progress_of state operation ≡ p
went_by state actor operation (act.End answer) p e = absurd (cc e)
went_by state actor operation action p e = cc e

pub went_on : (state : State) (actor : ℕ) (p : Progress) → told_in state (step.Go actor) ≡ told.Went actor p → (operation : Operation)
    × (operation_of state actor ≡ Some operation) × (progress_of state operation ≡ p)
went_on state actor p e = by (operation_of state actor) refl e
  where
    by : (o : Option Operation) → operation_of state actor ≡ o → told_of state actor o ≡ told.Went actor p →
        (operation : Operation) × (operation_of state actor ≡ Some operation) × (progress_of state operation ≡ p)
    by None is e = absurd (cc e)
    by (Some operation) is e = (operation, is, went_by state actor operation (action_of state operation) p e)

pub can_go : (state : State) (kept : Chronicled) (actor : ℕ) (stepped : Stepped) → CanTell state kept → TellsStep state actor stepped → CanGo kept state.steps actor stepped.progress
can_go state kept actor stepped can tells =
    let w = went_on state actor stepped.progress tells in
    subst (CanGo kept state.steps actor) w.2 (can.goes actor w.0 w.1)

ended_by : (state : State) (actor : ℕ) (operation : Operation) (action : Action) (e : Entrant) (answer : Reply) → told_by state actor operation action ≡ told.Ended actor e answer →
    (action ≡ act.End answer) × (entrant_of operation ≡ e)
ended_by state actor operation (act.End reply) e answer is = (let same : reply ≡ answer = cc is in ap act.End same, cc is)
ended_by state actor operation action e answer is = absurd (cc is)

pub ended_so : (state : State) (actor : ℕ) (e : Entrant) (answer : Reply) → told_in state (step.Go actor) ≡ told.Ended actor e answer →
    (operation : Operation) × (operation_of state actor ≡ Some operation) × (action_of state operation ≡ act.End answer) × (entrant_of operation ≡ e)
ended_so state actor e answer is = by (operation_of state actor) refl is
  where
    by : (o : Option Operation) → operation_of state actor ≡ o → told_of state actor o ≡ told.Ended actor e answer →
        (operation : Operation) × (operation_of state actor ≡ Some operation) × (action_of state operation ≡ act.End answer) × (entrant_of operation ≡ e)
    by None at is = absurd (cc is)
    by (Some operation) at is = let b = ended_by state actor operation (action_of state operation) e answer is in (operation, at, b.0, b.1)

pub can_end : (state : State) (kept : Chronicled) (actor : ℕ) (end : Ended) → CanTell state kept → TellsEnd state actor end → CanEnd kept actor end.entrant.id
can_end state kept actor end can tells =
    let w = ended_so state actor end.entrant end.reply tells in
    subst (λ (e : Entrant). CanEnd kept actor e.id) w.3 (can.ends actor w.0 w.1)

-- ---- what is recorded

-- of a step that is taken
pub recorded_so : (state : State) (past : Record) (s : Step) (o : Outcome) (after : State) (t : Told) → next state s ≡ Ok (o, after) → told_in state s ≡ t →
    next_record state past s ≡ noted past state.steps t
recorded_so state past s o after t takes tells = rw takes (ap (noted past state.steps) tells)

-- ---- what is refused

-- the definition denies it, or memory was wanting for a step that it takes
pub refused_kept : (state after : State) (kept : Chronicled) (s : Step) (refusal : Refusal) → after ≡ state →
    (next state s ≡ Err refusal) ⊎ ((refusal ≡ refuse.Memory) × (is_taken_step (next state s) ≡ true)) → TakesAndTells (Err refusal) state kept s after kept
refused_kept state after kept s refuse.Memory same (inl e) = absurd (never_memory state s e)
refused_kept state after kept s refuse.Memory same (inr e) = (same, refl, allowed state s e.1)
refused_kept state after kept s refusal same (inl e) = (same, refl, e)
refused_kept state after kept s refusal same (inr e) = let is = e.0 in absurd (grind (arith, is))

pub denied_kept : (state after : State) (kept : Chronicled) (s : Step) (refusal : Refusal) → after ≡ state → next state s ≡ Err refusal → TakesAndTells (Err refusal) state kept s after kept
denied_kept state after kept s refusal same e = refused_kept state after kept s refusal same (inl e)

pub go_kept : (state after : State) (kept : Chronicled) (actor : ℕ) (refusal : Refusal) → Applies (Err refusal) state actor (next state (step.Go actor)) after →
    TakesAndTells (Err refusal) state kept (step.Go actor) after kept
go_kept state after kept actor refusal (same, inl e) = denied_kept state after kept (step.Go actor) refusal same e
go_kept state after kept actor refusal (same, inr e) = refused_kept state after kept (step.Go actor) refusal same (inr (e.0, e.1))

-- there was no room: it is denied, or memory was wanting
wanting_by : (state : State) (kept : Chronicled) (s : Step) (denial : Option Refusal) → denial_of state s ≡ denial →
    TakesAndTells (Err (unwrap_or denial refuse.Memory)) state kept s state kept
wanting_by state kept s None is = (refl, refl, is)
wanting_by state kept s (Some refuse.Memory) is = absurd (not_for_memory state s is)
wanting_by state kept s (Some refusal) is = (refl, refl, denied state s refusal is)

pub wanting_kept : (state : State) (kept : Chronicled) (s : Step) (refusal : Refusal) → refusal ≡ unwrap_or (denial_of state s) refuse.Memory → TakesAndTells (Err refusal) state kept s state kept
wanting_kept state kept s refusal is =
    subst (λ (r : Refusal). TakesAndTells (Err r) state kept s state kept) (sym is) (wanting_by state kept s (denial_of state s) refl)

-- ---- the sweep tells nothing

pub sweep_told : (result : Result Outcome Refusal) (before after : State) (kept : Chronicled) → Answers result before (next before step.Sweep) after →
    TakesAndTells result before kept step.Sweep after kept
sweep_told (Ok o) before after kept e = (e, sym (recorded_so before kept.past step.Sweep o after told.Nothing e refl), refl)
sweep_told (Err refusal) before after kept e = denied_kept before after kept step.Sweep refusal e.0 e.1

-- ---- what a step tells

pub ruleset feeds = (can_begin, can_go, can_end, recorded_so, denied_kept, go_kept, wanting_kept, sweep_told)
