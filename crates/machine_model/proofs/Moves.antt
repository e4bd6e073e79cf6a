-- What a step that is taken does: one constructor for each kind of step.
use Rattle.std.proofs.Common.{◌≡◌, ℕ, Bool, true, false, cond, Option, Some, None, Ok, Err, refl, sym, subst}
use Rattle.std.proofs.lemmas.Option.{none-some}
use Rattle.machine_model.specs.Beneath.ctrie_base.specs.declared.refusals.Refusal.{Refusal}
use Rattle.machine_model.specs.Beneath.ctrie_base.specs.declared.refusals.Refusal.TheVariants as refuse
use Rattle.history.specs.declared.calls.Call.{Call}
use Rattle.history.specs.declared.replies.Reply.{Reply}
use Rattle.machine_model.specs.declared.operations.Operation.{Operation}
use Rattle.machine_model.specs.declared.actions.Action.{Action}
use Rattle.machine_model.specs.declared.actions.Action.TheVariants as act
use Rattle.machine_model.specs.declared.steps.Step.{Step}
use Rattle.machine_model.specs.declared.steps.Step.TheVariants as step
use Rattle.machine_model.specs.declared.steps.Outcome.{Outcome}
use Rattle.machine_model.specs.declared.steps.Outcome.TheVariants as outcome
use Rattle.machine_model.specs.States.{State, operation_of}
use Rattle.machine_model.specs.Operations.{action_of}
use Rattle.machine_model.specs.Machine.{next, begin_denial, begin_unless, go_denial, go_unless, go_on, step_by, is_spent, swept, settled_after, give_up_by, give_up_on, give_up_unless}
use Rattle.machine_model.specs.GivingUp.{given_up}
use Rattle.machine_model.specs.Moves.{Moves, Begins, Goes, Ends, Sweeps, GivesUp, MovesIfTaken, IsTaken}

-- a begin, by why it is denied
begin_moves : (state : State) (actor : ℕ) (call : Call) (number : Option ℕ) (denial : Option Refusal) → begin_denial state actor call number ≡ denial →
    MovesIfTaken state (step.Begin actor call number) (begin_unless state actor call number denial)
begin_moves state actor call number None d = Begins d
begin_moves state actor call number (Some refusal) d = tt

-- a step of an actor's operation, by its action
step_moves : (state : State) (actor : ℕ) → go_denial state actor ≡ None → (operation : Operation) → operation_of state actor ≡ Some operation →
    (action : Action) → action_of state operation ≡ action → MovesIfTaken state (step.Go actor) (step_by state actor operation action)
step_moves state actor d operation o (act.End answer) a = Ends d o a
step_moves state actor d operation o action a = Goes d o a tt

-- the same, by what the actor runs
go_on_moves : (state : State) (actor : ℕ) → go_denial state actor ≡ None → (found : Option Operation) → operation_of state actor ≡ found →
    MovesIfTaken state (step.Go actor) (go_on state actor found)
go_on_moves state actor d None o = tt
go_on_moves state actor d (Some operation) o = step_moves state actor d operation o (action_of state operation) refl

-- the same, by why it is denied
go_moves : (state : State) (actor : ℕ) (denial : Option Refusal) → go_denial state actor ≡ denial →
    MovesIfTaken state (step.Go actor) (go_unless state actor denial)
go_moves state actor None d = go_on_moves state actor d (operation_of state actor) refl
go_moves state actor (Some refusal) d = tt

-- a sweep, by whether all steps are taken
sweep_moves : (state : State) (spent : Bool) → is_spent state ≡ spent →
    MovesIfTaken state step.Sweep (cond spent (Err refuse.Spent) (settled_after state (swept state)))
sweep_moves state true e = tt
sweep_moves state false e = Sweeps e

-- giving up, by what the operation answers then, if it may
give_up_by_moves : (state : State) (actor : ℕ) → go_denial state actor ≡ None → (operation : Operation) → operation_of state actor ≡ Some operation → (answer : Option Reply) →
    given_up operation.call operation.line ≡ answer → MovesIfTaken state (step.GiveUp actor) (give_up_by state actor operation answer)
give_up_by_moves state actor d operation is None e = tt
give_up_by_moves state actor d operation is (Some answer) e = GivesUp d is e

give_up_on_moves : (state : State) (actor : ℕ) → go_denial state actor ≡ None → (found : Option Operation) → operation_of state actor ≡ found →
    MovesIfTaken state (step.GiveUp actor) (give_up_on state actor found)
give_up_on_moves state actor d None is = tt
give_up_on_moves state actor d (Some operation) is = give_up_by_moves state actor d operation is (given_up operation.call operation.line) refl

give_up_moves : (state : State) (actor : ℕ) (denial : Option Refusal) → go_denial state actor ≡ denial → MovesIfTaken state (step.GiveUp actor) (give_up_unless state actor denial)
give_up_moves state actor None d = give_up_on_moves state actor d (operation_of state actor) refl
give_up_moves state actor (Some refusal) d = tt

-- each step that is taken is a move
pub moves : (state : State) (s : Step) → MovesIfTaken state s (next state s)
unfolding next
moves state (step.Begin actor call number) = begin_moves state actor call number (begin_denial state actor call number) refl
moves state (step.Go actor) = go_moves state actor (go_denial state actor) refl
moves state step.Sweep = sweep_moves state (is_spent state) refl
moves state (step.GiveUp actor) = give_up_moves state actor (go_denial state actor) refl

-- a step that comes to this is a move
pub moved : (state : State) (s : Step) (o : Outcome) (after : State) → next state s ≡ Ok (o, after) → Moves state s o after
moved state s o after e = subst (λ a. MovesIfTaken state s a) e (moves state s)

-- what the end of an operation tells
pub ending : (state : State) (actor id : ℕ) (answer : Reply) (after : State) → Moves state (step.Go actor) (outcome.Ended id answer) after →
    (operation : Operation) × (operation_of state actor ≡ Some operation) × (operation.id ≡ id) × (action_of state operation ≡ act.End answer)
    × (go_denial state actor ≡ None)
ending state actor id answer after (Ends {operation} d is a) = (operation, is, refl, a, d)

-- ---- where a step is taken

-- a step of an operation is taken, whatever its action
step_taken : (state : State) (actor : ℕ) (operation : Operation) (action : Action) → IsTaken (step_by state actor operation action)
step_taken state actor operation (act.End answer) = tt
step_taken state actor operation action = tt

-- the same, by what the actor runs
go_on_taken : (state : State) (actor : ℕ) (found : Option Operation) (operation : Operation) → found ≡ Some operation → IsTaken (go_on state actor found)
go_on_taken state actor None operation e = none-some operation e
go_on_taken state actor (Some found) operation e = step_taken state actor found (action_of state found)

-- the same, by why it is denied
go_taken : (state : State) (actor : ℕ) (denial : Option Refusal) (operation : Operation) → denial ≡ None → operation_of state actor ≡ Some operation →
    IsTaken (go_unless state actor denial)
go_taken state actor None operation d e = go_on_taken state actor (operation_of state actor) operation e
go_taken state actor (Some why) operation d e = none-some why (sym d)

-- where nothing denies it the step is taken
pub allowed_taken : (state : State) (actor : ℕ) (operation : Operation) → go_denial state actor ≡ None → operation_of state actor ≡ Some operation →
    IsTaken (next state (step.Go actor))
unfolding next
allowed_taken state actor operation d e = go_taken state actor (go_denial state actor) operation d e
