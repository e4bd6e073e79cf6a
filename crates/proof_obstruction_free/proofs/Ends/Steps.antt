-- A step of an actor whose operation runs: it goes on with it, or ends it.
use Rattle.std.proofs.Common.{◌≡◌, ℕ, zero, suc, cond, ◌-◌, ◌<◌, Bool, true, false, not, [], ◌∷◌, set, get_or, Option, Some, None, is_some, Ok, refl, sym, ap, ◌∙◌, subst, arith}
use Rattle.std.specs.Prelude.{Contains}
use Rattle.std.proofs.lemmas.Bool.{lt-leb}
use Rattle.std.proofs.lemmas.List.{get_or-set_same}
use Rattle.std.proofs.lemmas.List.Elements.{Contains-append_right}
use Rattle.std.proofs.lemmas.Option.{none-some}
use Rattle.proof_obstruction_free.specs.Vocabulary.{Kind, End, Reply, Action, Operation, Outcome, Went, Ended, gone, ended, operation_after, settled, first_reason, go_denial, go_on, go_unless}
use Rattle.proof_obstruction_free.specs.Vocabulary.{is_actor, is_running, is_spent, is_taken_step, next, next_state, state_after, step_by, action_of, kind_of, Record, next_record, noted, State}
use Rattle.proof_obstruction_free.specs.Vocabulary.{operation_of, told_in, GoesOn}
use Rattle.proof_obstruction_free.specs.Beneath.ctrie_base.specs.declared.refusals.Refusal.TheVariants as refuse
use Rattle.proof_obstruction_free.specs.Beneath.machine_model.specs.declared.actions.Action.TheVariants as act
use Rattle.proof_obstruction_free.specs.Beneath.machine_model.specs.declared.steps.Step.TheVariants as step
use Rattle.proof_obstruction_free.specs.Beneath.machine_model.proofs.Actors.{mark_one, mark_only, marks_in}
use Rattle.proof_obstruction_free.specs.Beneath.machine_model.proofs.Found.{found_within}
use Rattle.proof_obstruction_free.specs.Beneath.machine_model.proofs.Moves.{moved}
use Rattle.proof_obstruction_free.specs.Beneath.machine_model.proofs.Notes.{noted_ending}
use Rattle.proof_obstruction_free.specs.Beneath.proof_generations.proofs.Handles.Running.{Follows, follows, rests, steps, ends, gives_up}
use Rattle.proof_obstruction_free.specs.Beneath.proof_generations.specs.Running.{Runs}

-- ---- nothing denies it

no_denial : (own running spent : Bool) → own ≡ true → running ≡ true → spent ≡ false →
    first_reason ((not own, refuse.NoActor) ∷ (not running, refuse.Idle) ∷ (spent, refuse.Spent) ∷ []) ≡ None
no_denial own running spent a b c = grind (arith, a, b, c)

pub allowed : (state : State) (actor : ℕ) (operation : Operation) → is_actor state actor ≡ true → operation_of state actor ≡ Some operation → state.steps < state.limits.steps →
    go_denial state actor ≡ None
allowed state actor operation own runs more =
    no_denial (is_actor state actor) (is_running state actor) (is_spent state) own (ap is_some runs) (lt-leb state.limits.steps state.steps more)

-- ---- what comes of it

pub data Steps (state : State) (actor : ℕ) (operation : Operation) : Type 0 where
  Leads : (kind : Kind) → next state (step.Go actor) ≡ Ok (Went kind, next_state state (step.Go actor)) → (after : Operation) →
      operation_of (next_state state (step.Go actor)) actor ≡ Some after → after.id ≡ operation.id → Steps state actor operation
  Last : (answer : Reply) → next state (step.Go actor) ≡ Ok (Ended operation.id answer, next_state state (step.Go actor)) →
      operation_of (next_state state (step.Go actor)) actor ≡ None →
      ((past : Record) → Contains (next_record state past (step.Go actor)).events (End operation.id answer)) → Steps state actor operation

goes_by : (state : State) (actor : ℕ) (operation : Operation) → go_denial state actor ≡ None → operation_of state actor ≡ Some operation →
    next state (step.Go actor) ≡ step_by state actor operation (action_of state operation)
unfolding next
goes_by state actor operation d runs = ap (go_unless state actor) d ∙ ap (go_on state actor) runs

mark_id : (m : Option ℕ) (operation : Operation) → (mark_one m operation).id ≡ operation.id
mark_id m operation = ap (λ (x : Operation). x.id) (mark_only m operation)

after_going : (state : State) (k : ℕ) (operation : Operation) (o : Outcome) (after : State) → GoesOn (action_of state operation) → Follows state (step.Go (suc k)) after k operation →
    (found : Operation) × (operation_of after (suc k) ≡ Some found) × (found.id ≡ operation.id)
after_going state k operation o after g (rests other found) = absurd (other refl)
after_going state k operation o after g (steps own on found) = (_, found, mark_id (marks_in state (step.Go (suc k))) (operation_after state operation))
after_going state k operation o after g (ends answer own is) = absurd (subst GoesOn is g)
after_going state k operation o after g (gives_up answer own may found) = let wrong : ⊥ = cc own in absurd wrong

idle_after : (state : State) (k : ℕ) (operation : Operation) (answer : Reply) → Runs state k operation → operation_of (settled state (ended state (suc k))) (suc k) ≡ None
idle_after state k operation answer runs =
    let place : suc k - 1 ≡ k = omega arith in
    ap (λ i. get_or (set state.actors i None) k None) place ∙ get_or-set_same state.actors k None None (found_within state.actors k operation runs)

told_after : (state after : State) (actor : ℕ) (operation : Operation) (answer : Reply) → operation_of state actor ≡ Some operation → action_of state operation ≡ act.End answer →
    next state (step.Go actor) ≡ Ok (Ended operation.id answer, after) → (past : Record) → Contains (next_record state past (step.Go actor)).events (End operation.id answer)
told_after state after actor operation answer runs is e past =
    let here : next_record state past (step.Go actor) ≡ noted past state.steps (told_in state (step.Go actor)) =
    ap (λ x. cond (is_taken_step x) (noted past state.steps (told_in state (step.Go actor))) past) e in
    subst (λ (r : Record). Contains r.events (End operation.id answer)) (sym (here ∙ noted_ending state past actor operation answer runs is))
    (Contains-append_right past.events (End operation.id answer ∷ []) (End operation.id answer) (0, omega arith, refl))

-- by its action
by_end : (state : State) (k : ℕ) (operation : Operation) (answer : Reply) → Runs state k operation → action_of state operation ≡ act.End answer →
    next state (step.Go (suc k)) ≡ Ok (Ended operation.id answer, settled state (ended state (suc k))) → Steps state (suc k) operation
by_end state k operation answer runs is e =
    let here : next_state state (step.Go (suc k)) ≡ settled state (ended state (suc k)) = ap (state_after state) e in
    Last answer (e ∙ ap (λ x. Ok (Ended operation.id answer, x)) (sym here)) (ap (λ x. operation_of x (suc k)) here ∙ idle_after state k operation answer runs)
    (told_after state (settled state (ended state (suc k))) (suc k) operation answer runs is e)

by_going : (state : State) (k : ℕ) (operation : Operation) → Runs state k operation → GoesOn (action_of state operation) → (kind : Kind) →
    next state (step.Go (suc k)) ≡ Ok (Went kind, settled state (gone state (suc k) operation)) → Steps state (suc k) operation
by_going state k operation runs g kind e =
    let here : next_state state (step.Go (suc k)) ≡ settled state (gone state (suc k) operation) = ap (state_after state) e in
    let m = moved state (step.Go (suc k)) (Went kind) (settled state (gone state (suc k) operation)) e in
    let (found, after, same) = after_going state k operation (Went kind) (settled state (gone state (suc k) operation)) g
    (follows state (step.Go (suc k)) (Went kind) (settled state (gone state (suc k) operation)) m k operation runs) in
    Leads kind (e ∙ ap (λ x. Ok (Went kind, x)) (sym here)) found (ap (λ x. operation_of x (suc k)) here ∙ after) same

by_action : (state : State) (k : ℕ) (operation : Operation) → Runs state k operation → (action : Action) → action_of state operation ≡ action →
    next state (step.Go (suc k)) ≡ step_by state (suc k) operation action → Steps state (suc k) operation
by_action state k operation runs (act.End answer) is e = by_end state k operation answer runs is e
by_action state k operation runs action is e = by_going state k operation runs (rw is tt) (kind_of action) e

pub steps_alone : (state : State) (actor : ℕ) (operation : Operation) → go_denial state actor ≡ None → operation_of state actor ≡ Some operation → Steps state actor operation
steps_alone state zero operation d runs = absurd (none-some operation runs)
steps_alone state (suc k) operation d runs = by_action state k operation runs (action_of state operation) refl (goes_by state (suc k) operation d runs)
