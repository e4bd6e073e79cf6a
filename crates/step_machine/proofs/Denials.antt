-- Denials.
use Rattle.std.specs.Prelude.{◌≡◌, ◌⊎◌, ℕ, Bool, true, false, List, [], ◌∷◌, Option, Some, None, Err, cond, unwrap_or}
use Rattle.std.proofs.Common.{refl, sym, ap, ◌∙◌, subst, arith, inl, inr}
use Rattle.step_machine.specs.Vocabulary.{Refusal, Call, Reply, Operation, Step, given_up, State, operation_of, next, denial_of, begin_denial, begin_unless, go_denial, go_unless, give_up_by}
use Rattle.step_machine.specs.Vocabulary.{give_up_on, give_up_unless, first_reason, is_spent, is_taken_step}
use Rattle.ctrie_base.specs.declared.refusals.Refusal.TheVariants as refuse
use Rattle.machine_model.specs.declared.steps.Step.TheVariants as step
use Rattle.proof_runs.specs.Machines.{Taken, state_of, Applied}
use Rattle.machine_core.proofs.Steps.{denied}

-- none of the reasons is want of memory, so the first isn't either

abbrev AreOthers : List (Bool × Refusal) → Type 0
AreOthers [] = Unit {0}
AreOthers (r ∷ rs) = (r.1 ≡ refuse.Memory → ⊥) × AreOthers rs

not_memory : (rs : List (Bool × Refusal)) → AreOthers rs → first_reason rs ≡ Some refuse.Memory → ⊥
not_memory [] others e = grind (arith, e)
not_memory ((true, refusal) ∷ rs) others e = let first = others.0 in grind (arith, first, e)
not_memory ((false, refusal) ∷ rs) others e = not_memory rs others.1 e

begin_reasons : (a b c d f g h i : Bool) → first_reason ((a, refuse.NoActor) ∷ (b, refuse.ActorBusy) ∷ (c, refuse.NoHandle) ∷ (d, refuse.ReadOnly)
    ∷ (f, refuse.NotReadOnly) ∷ (g, refuse.Busy) ∷ (h, refuse.HandlesFull) ∷ (i, refuse.Spent) ∷ []) ≡ Some refuse.Memory → ⊥
begin_reasons a b c d f g h i e = not_memory ((a, refuse.NoActor) ∷ (b, refuse.ActorBusy) ∷ (c, refuse.NoHandle) ∷ (d, refuse.ReadOnly)
    ∷ (f, refuse.NotReadOnly) ∷ (g, refuse.Busy) ∷ (h, refuse.HandlesFull) ∷ (i, refuse.Spent) ∷ []) (
      (λ m. grind (arith, m)),
      (
        (λ m. grind (arith, m)),
        ((λ m. grind (arith, m)), ((λ m. grind (arith, m)), ((λ m. grind (arith, m)), ((λ m. grind (arith, m)), ((λ m. grind (arith, m)), ((λ m. grind (arith, m)), tt)))))),
      ),
    ) e

go_reasons : (a b c : Bool) → first_reason ((a, refuse.NoActor) ∷ (b, refuse.Idle) ∷ (c, refuse.Spent) ∷ []) ≡ Some refuse.Memory → ⊥
go_reasons a b c e = not_memory ((a, refuse.NoActor) ∷ (b, refuse.Idle) ∷ (c, refuse.Spent) ∷ []) ((λ m. grind (arith, m)), ((λ m. grind (arith, m)), ((λ m. grind (arith, m)), tt))) e

give_up_reasons : (a b c d : Bool) → first_reason ((a, refuse.NoActor) ∷ (b, refuse.Idle) ∷ (c, refuse.Spent) ∷ (d, refuse.Busy) ∷ []) ≡ Some refuse.Memory → ⊥
give_up_reasons a b c d e = not_memory ((a, refuse.NoActor) ∷ (b, refuse.Idle) ∷ (c, refuse.Spent) ∷ (d, refuse.Busy) ∷ [])
    ((λ m. grind (arith, m)), ((λ m. grind (arith, m)), ((λ m. grind (arith, m)), ((λ m. grind (arith, m)), tt)))) e

spent_alone : (spent : Bool) → cond spent (Some refuse.Spent) None ≡ Some refuse.Memory → ⊥
spent_alone true e = grind (arith, e)
spent_alone false e = grind (arith, e)

-- nothing is denied for want of memory
pub not_for_memory : (state : State) (s : Step) → denial_of state s ≡ Some refuse.Memory → ⊥
not_for_memory state (step.Begin actor call number) e = begin_reasons _ _ _ _ _ _ _ _ e
not_for_memory state (step.Go actor) e = go_reasons _ _ _ e
not_for_memory state step.Sweep e = spent_alone (is_spent state) e
not_for_memory state (step.GiveUp actor) e = give_up_reasons _ _ _ _ e

-- nothing is refused for want of memory

begin_refused : (state : State) (actor : ℕ) (call : Call) (number : Option ℕ) (denial : Option Refusal) → (denial ≡ Some refuse.Memory → ⊥) →
    begin_unless state actor call number denial ≡ Err refuse.Memory → ⊥
begin_refused state actor call number (Some refusal) other e = other (let same : refusal ≡ refuse.Memory = grind (arith, e) in rw same refl)
begin_refused state actor call number None other e = grind (arith, e)

go_refused : (state : State) (actor : ℕ) (denial : Option Refusal) (operation : Option Operation) → operation_of state actor ≡ operation →
    (denial ≡ Some refuse.Memory → ⊥) → go_unless state actor denial ≡ Err refuse.Memory → ⊥
go_refused state actor (Some refusal) operation is other e = other (let same : refusal ≡ refuse.Memory = grind (arith, e) in rw same refl)
go_refused state actor None None is other e = let idle = rw is at e in grind (arith, idle)
go_refused state actor None (Some operation) is other e = let went = rw is at e in grind (arith, went)

given_up_refused : (state : State) (actor : ℕ) (operation : Operation) (answer : Option Reply) → give_up_by state actor operation answer ≡ Err refuse.Memory → ⊥
given_up_refused state actor operation None e = grind (arith, e)
given_up_refused state actor operation (Some answer) e = grind (arith, e)

give_up_refused : (state : State) (actor : ℕ) (denial : Option Refusal) (operation : Option Operation) → operation_of state actor ≡ operation →
    (denial ≡ Some refuse.Memory → ⊥) → give_up_unless state actor denial ≡ Err refuse.Memory → ⊥
give_up_refused state actor (Some refusal) operation is other e = other (let same : refusal ≡ refuse.Memory = grind (arith, e) in rw same refl)
give_up_refused state actor None None is other e = let idle = rw is at e in grind (arith, idle)
give_up_refused state actor None (Some operation) is other e =
    given_up_refused state actor operation (given_up operation.call operation.line) (sym (ap (λ o. give_up_on state actor o) is) ∙ e)

sweep_refused : (state : State) (spent : Bool) → is_spent state ≡ spent → next state step.Sweep ≡ Err refuse.Memory → ⊥
unfolding next
sweep_refused state true is e = let d = rw is at e in grind (arith, d)
sweep_refused state false is e = let d = rw is at e in grind (arith, d)

pub never_memory : (state : State) (s : Step) → next state s ≡ Err refuse.Memory → ⊥
unfolding next
never_memory state (step.Begin actor call number) e = begin_refused state actor call number (begin_denial state actor call number) (not_for_memory state (step.Begin actor call number)) e
never_memory state (step.Go actor) e = go_refused state actor (go_denial state actor) (operation_of state actor) refl (not_for_memory state (step.Go actor)) e
never_memory state step.Sweep e = sweep_refused state (is_spent state) refl e
never_memory state (step.GiveUp actor) e = give_up_refused state actor (go_denial state actor) (operation_of state actor) refl (not_for_memory state (step.Go actor)) e

-- nothing denies what is taken
allowed_by : (state : State) (s : Step) (denial : Option Refusal) → denial_of state s ≡ denial → is_taken_step (next state s) ≡ true → denial ≡ None
allowed_by state s None is taken = refl
allowed_by state s (Some refusal) is taken = let refused = rw (denied state s refusal is) at taken in absurd (grind (arith, refused))

pub allowed : (state : State) (s : Step) → is_taken_step (next state s) ≡ true → denial_of state s ≡ None
allowed state s taken = allowed_by state s (denial_of state s) refl taken

-- what contracts say of a step for which there is no room: it is denied, or memory was wanting
wanting_by : (machine : Taken) (s : Step) (denial : Option Refusal) → denial_of (state_of machine) s ≡ denial →
    Applied (Err (unwrap_or denial refuse.Memory)) machine s machine
wanting_by machine s None is = (refl, is)
wanting_by machine s (Some refuse.Memory) is = absurd (not_for_memory (state_of machine) s is)
wanting_by machine s (Some refusal) is = (refl, denied (state_of machine) s refusal is)

pub wanting_applied : (machine : Taken) (s : Step) (refusal : Refusal) → refusal ≡ unwrap_or (denial_of (state_of machine) s) refuse.Memory →
    Applied (Err refusal) machine s machine
wanting_applied machine s refusal is =
    subst (λ (r : Refusal). Applied (Err r) machine s machine) (sym is) (wanting_by machine s (denial_of (state_of machine) s) refl)

-- what contracts say of a step that is refused: the definition denies it, or memory was wanting for one that it takes
pub refused_applied : (machine : Taken) (s : Step) (refusal : Refusal) →
    (next (state_of machine) s ≡ Err refusal) ⊎ ((refusal ≡ refuse.Memory) × (is_taken_step (next (state_of machine) s) ≡ true)) → Applied (Err refusal) machine s machine
refused_applied machine s refuse.Memory (inl e) = absurd (never_memory (state_of machine) s e)
refused_applied machine s refuse.Memory (inr e) = (refl, allowed (state_of machine) s e.1)
refused_applied machine s refusal (inl e) = (refl, e)
refused_applied machine s refusal (inr e) = let is = e.0 in absurd (grind (arith, is))

-- what contracts say of a step that wasn't taken
pub ruleset not_taken = (wanting_applied, refused_applied)
