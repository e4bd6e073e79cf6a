-- What steps come to.
use Rattle.std.proofs.Common.{◌≡◌, ℕ, ◌+◌, ◌-◌, slice_set, inl, inr, true, false, if◌then◌else◌, Option, Some, None, IfErr, IfOk, OnErr, Result, Ok, Err, refl, sym, ap, ◌∙◌, arith, Bool}
use Rattle.std.proofs.lemmas.Option.{none-some, same_Some}
use Rattle.machine_core.specs.Vocabulary.{Refusal, Call, Action, Operation, Outcome, Step, State, operation_of, handle_of, action_of, gone, limbo_after, outside, settled, next, begin_denial}
use Rattle.machine_core.specs.Vocabulary.{begin_unless, with_begin, go_denial, go_unless, go_on, went, is_spent, swept, settled_after, is_taken_step, denial_of, begun_operation, Told, Applies}
use Rattle.machine_core.specs.Vocabulary.{Walks}
use Rattle.ctrie_base.specs.declared.refusals.Refusal.TheVariants as refuse
use Rattle.machine_model.specs.declared.actions.Action.TheVariants as act
use Rattle.machine_model.specs.declared.steps.Outcome.TheVariants as outcome
use Rattle.machine_model.specs.declared.steps.Step.TheVariants as step
use Rattle.machine_model.proofs.Frames.{acted_framed}
use Rattle.proof_core.specs.Bounds.{Answers, Leads}
use Rattle.machine_core.specs.Told.{TellsBegin, stepped}
use Rattle.machine_core.proofs.Stopped.{giving_up_denied, giving_up_taken}
use Rattle.machine_core.specs.declared.telling.Begun.{Begun}
use Rattle.machine_core.specs.declared.telling.Stepped.{Stepped}
use Rattle.machine_model.specs.declared.records.Told.TheVariants as told

-- ---- denied steps

sweep_denied : (state : State) (b : Bool) (why : Refusal) → (if b then Some refuse.Spent else None) ≡ Some why →
    (if b then Err refuse.Spent else settled_after state (swept state)) ≡ Err why
sweep_denied state true why e = ap Err (same_Some refuse.Spent why e)
sweep_denied state false why e = absurd (none-some why e)

-- a step is denied as the definition says
pub denied : (state : State) (s : Step) (why : Refusal) → denial_of state s ≡ Some why → next state s ≡ Err why
unfolding next
denied state (step.Begin actor call number) why e = ap (λ d. begin_unless state actor call number d) e
denied state (step.Go actor) why e = ap (λ d. go_unless state actor d) e
denied state step.Sweep why e = sweep_denied state (is_spent state) why e
denied state (step.GiveUp actor) why e = giving_up_denied state actor why e

-- a denied step is refused as such
pub refused : (state : State) (s : Step) (why : Refusal) → denial_of state s ≡ Some why → Answers (Err why) state (next state s) state
refused state s why e = (refl, denied state s why e)

pub refused_so : (state : State) (actor : ℕ) (why : Refusal) → go_denial state actor ≡ Some why → Applies (Err why) state actor (next state (step.Go actor)) state
refused_so state actor why e = (refl, inl (denied state (step.Go actor) why e))

-- ---- steps that aren't denied

begin_answer : (state : State) (actor : ℕ) (call : Call) (number : Option ℕ) → begin_denial state actor call number ≡ None →
    next state (step.Begin actor call number) ≡ Ok (outcome.Began (state.begun), settled state (with_begin state actor call (begun_operation state call number)))
unfolding next
begin_answer state actor call number e = ap (λ d. begin_unless state actor call number d) e

pub sweep_answer : (state : State) → is_spent state ≡ false → next state step.Sweep ≡ settled_after state (swept state)
unfolding next
sweep_answer state e = ap (λ b. if b then Err refuse.Spent else settled_after state (swept state)) e

go_answer : (state : State) (actor : ℕ) (operation : Operation) → go_denial state actor ≡ None → operation_of state actor ≡ Some operation →
    next state (step.Go actor) ≡ settled_after state (went state actor operation (action_of state operation))
unfolding next
go_answer state actor operation e found = ap (λ d. go_unless state actor d) e ∙ ap (λ o. go_on state actor o) found

-- an actor whose step isn't denied runs an operation
running_by : (state : State) (actor : ℕ) (found : Option Operation) → operation_of state actor ≡ found → go_denial state actor ≡ None →
    (operation : Operation) × (operation_of state actor ≡ Some operation)
running_by state actor None e d = absurd (grind arith)
running_by state actor (Some operation) e d = (operation, e)

pub running : (state : State) (actor : ℕ) → go_denial state actor ≡ None → (operation : Operation) × (operation_of state actor ≡ Some operation)
running state actor d = running_by state actor (operation_of state actor) refl d

unspent_by : (b : Bool) → (if b then Some refuse.Spent else None) ≡ None → b ≡ false
unspent_by true d = absurd (none-some _ (sym d))
unspent_by false d = refl

-- a sweep that isn't denied
sweep_unspent : (state : State) → denial_of state step.Sweep ≡ None → is_spent state ≡ false
sweep_unspent state d = unspent_by (is_spent state) d

-- a step that isn't denied is taken
allowed : (state : State) (s : Step) → denial_of state s ≡ None → is_taken_step (next state s) ≡ true
allowed state (step.Begin actor call number) d = ap is_taken_step (begin_answer state actor call number d)
allowed state (step.Go actor) d = let (operation, found) = running state actor d in ap is_taken_step (go_answer state actor operation d found)
allowed state step.Sweep d = ap is_taken_step (sweep_answer state (sweep_unspent state d))
allowed state (step.GiveUp actor) d = giving_up_taken state actor d

-- a step of an operation that isn't denied applies, be it taken or not
pub applies_stepped : (before after : State) (actor : ℕ) (r : Result Stepped Refusal) → go_denial before actor ≡ None →
    IfOk r (λ taken. next before (step.Go actor) ≡ Ok (outcome.Went taken.kind, after)) → OnErr r (after ≡ before) → IfErr r (λ why. why ≡ refuse.Memory) →
    OnErr r (Walks (operation_of before actor)) → Applies (stepped r) before actor (next before (step.Go actor)) after
applies_stepped before after actor (Ok taken) d answers same memory walks = answers
applies_stepped before after actor (Err why) d answers same memory walks = (same, inr (memory, allowed before (step.Go actor) d, walks))

-- ---- what they lead to

-- what a begin leaves
begin_leaves : (state : State) (actor : ℕ) (call : Call) (operation : Operation) →
    ((with_begin state actor call operation).limbo ≡ state.limbo) × ((with_begin state actor call operation).steps ≡ state.steps)
begin_leaves state actor call operation = grind arith

-- what stands at its actor then
pub begin_actors : (state : State) (actor : ℕ) (call : Call) (operation : Operation) → (with_begin state actor call operation).actors ≡ slice_set state.actors (actor - 1) (Some operation)
begin_actors state actor call operation = grind arith

-- a begin that isn't denied
pub begin_leads : (state after : State) (actor : ℕ) (call : Call) (id : ℕ) → begin_denial state actor call None ≡ None → id ≡ state.begun →
    after ≡ with_begin state actor call (begun_operation state call None) → Leads state (step.Begin actor call None) (outcome.Began id) after
begin_leads state after actor call id d e is =
    let left = begin_leaves state actor call (begun_operation state call None) in
    record {
      answer = begin_answer state actor call None d ∙ ap (λ n. Ok (outcome.Began n, settled state (with_begin state actor call (begun_operation state call None)))) (sym e)
          ∙ ap (λ x. Ok (outcome.Began id, settled state x)) (sym is);
      limbo = ap (λ x. x.limbo) is ∙ left.0;
      steps = ap (λ x. x.steps) is ∙ left.1;
    }

-- a begin tells the id that it gives
pub begun_id : (state : State) (actor : ℕ) (call : Call) (b : Begun) → TellsBegin state actor call b → b.id ≡ state.begun
begun_id state actor call b tells = sym (ap id_told tells)
  where
    id_told : Told → ℕ
    id_told (told.Began id who what opens) = id
    id_told t = 0

-- what a step that goes on leaves
record Leaves (before after : State) : Type 0 where
  limbo : after.limbo ≡ before.limbo
  steps : after.steps ≡ before.steps

gone_leaves : (state : State) (actor : ℕ) (operation : Operation) → Leaves state (gone state actor operation)
gone_leaves state actor operation = record {
  limbo = (acted_framed _ (handle_of operation.call) (action_of state operation)).limbo;
  steps = (acted_framed _ (handle_of operation.call) (action_of state operation)).steps;
}

went_leaves : (state : State) (actor : ℕ) (operation : Operation) (action : Action) → Leaves state (went state actor operation action).1
went_leaves state actor operation (act.End answer) = record { limbo = refl; steps = refl }
went_leaves state actor operation action = gone_leaves state actor operation

-- a step of an actor's operation that isn't denied
pub go_leads : (state after : State) (actor : ℕ) (o : Outcome) → go_denial state actor ≡ None →
    ((operation : Operation) → operation_of state actor ≡ Some operation → went state actor operation (action_of state operation) ≡ (o, after)) →
    Leads state (step.Go actor) o after
go_leads state after actor o d says =
    let (operation, found) = running state actor d in
    let is = says operation found in
    let left = went_leaves state actor operation (action_of state operation) in
    record {
      answer = go_answer state actor operation d found ∙ ap (λ x. settled_after state x) is;
      limbo = sym (ap (λ x. x.1.limbo) is) ∙ left.limbo;
      steps = sym (ap (λ x. x.1.steps) is) ∙ left.steps;
    }

-- ---- the end of a step

-- where a step left limbo and the count of steps, its end needs only what it led to
settled_same : (before middle : State) → middle.limbo ≡ before.limbo → middle.steps ≡ before.steps → settled before middle ≡ settled middle middle
settled_same before middle limbo steps =
    ap (λ items. record middle { limbo = limbo_after middle.heap (outside middle) middle.epoch items; steps = before.steps + 1 }) (sym limbo)
    ∙ ap (λ n. record middle { limbo = limbo_after middle.heap (outside middle) middle.epoch middle.limbo; steps = n + 1 }) (sym steps)

-- a step that led there applies
pub leads_taken : (before middle after : State) (s : Step) (o : Outcome) → Leads before s o middle → after ≡ settled middle middle →
    next before s ≡ Ok (o, after)
leads_taken before middle after s o h e =
    h.answer ∙ ap (λ x. Ok (o, x)) (settled_same before middle h.limbo h.steps ∙ sym e)
