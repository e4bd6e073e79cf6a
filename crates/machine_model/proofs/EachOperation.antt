-- What each running operation meets along every run.
use Rattle.std.proofs.Common.{◌≡◌, ℕ, zero, suc, Option, Some, None, List, get_or, subst}
use Rattle.std.proofs.lemmas.Option.{none-some}
use Rattle.history.specs.declared.calls.Call.{Call}
use Rattle.history.specs.declared.replies.Reply.{Reply}
use Rattle.machine_model.specs.declared.operations.Operation.{Operation}
use Rattle.machine_model.specs.declared.steps.Bounds.{Bounds}
use Rattle.machine_model.specs.declared.steps.Outcome.{Outcome}
use Rattle.machine_model.specs.declared.steps.Step.{Step}
use Rattle.machine_model.specs.States.{State, first_state, operation_of, with_operation}
use Rattle.machine_model.specs.Operations.{action_of}
use Rattle.machine_model.specs.Acting.{operation_after, gone}
use Rattle.machine_model.specs.Counting.{settled}
use Rattle.machine_model.specs.Machine.{begin_denial, with_begin, run}
use Rattle.machine_model.specs.GivingUp.{given_up, gave_up}
use Rattle.machine_model.proofs.Along.{along}
use Rattle.machine_model.proofs.Found.{none_found}
use Rattle.machine_model.specs.Moves.{Begins, Goes, Ends, Sweeps, GivesUp}
use Rattle.machine_model.specs.Moves.{Moves, GoesOn, begun_operation}
use Rattle.machine_model.proofs.Actors.{IsOf, is_of, mark_one, marks_in, marks_by, of_others, of_itself, of_begin, of_end, of_giving_up}

-- P holds of each running operation; the actor k + 1 has the place k
abbrev pub OfEach : (State → Operation → Type 0) → State → Type 0
OfEach P state = (k : ℕ) (operation : Operation) → get_or state.actors k None ≡ Some operation → P state operation

-- it holds of the operation of an actor
pub of_running : (P : State → Operation → Type 0) (state : State) → OfEach P state → (actor : ℕ) (operation : Operation) →
    operation_of state actor ≡ Some operation → P state operation
of_running P state all zero operation e = absurd (none-some operation e)
of_running P state all (suc k) operation e = all k operation e

-- P holds of an operation that begins, of one that goes on after its step, of one that gives up, and of any other still after a step. The steps so far are given, so that what
-- was shown of all runs before can be used.
module _ (limits : Bounds) (P : State → Operation → Type 0)
    (begins : (steps : List Step) (actor : ℕ) (call : Call) (number : Option ℕ) → begin_denial (run limits steps) actor call number ≡ None →
    let operation = begun_operation (run limits steps) call number in
    P (settled (run limits steps) (with_begin (run limits steps) actor call operation)) operation)
    (goes : (steps : List Step) (actor : ℕ) (operation : Operation) → operation_of (run limits steps) actor ≡ Some operation →
    GoesOn (action_of (run limits steps) operation) → P (run limits steps) operation →
    P (settled (run limits steps) (gone (run limits steps) actor operation))
    (mark_one (marks_by (run limits steps) (Some operation)) (operation_after (run limits steps) operation)))
    (gives_up : (steps : List Step) (actor : ℕ) (operation : Operation) (answer : Reply) → operation_of (run limits steps) actor ≡ Some operation →
    given_up operation.call operation.line ≡ Some answer → P (run limits steps) operation →
    P (settled (run limits steps) (with_operation (run limits steps) actor (Some (gave_up operation answer)))) (gave_up operation answer))
    (others : (steps : List Step) (s : Step) (o : Outcome) (after : State) → Moves (run limits steps) s o after → (k : ℕ) → (IsOf (suc k) s → ⊥) →
    (operation : Operation) → get_or (run limits steps).actors k None ≡ Some operation → P (run limits steps) operation →
    P after (mark_one (marks_in (run limits steps) s) operation)) where
  -- each move keeps it
  of_each_after : (steps : List Step) (s : Step) (o : Outcome) (after : State) → Moves (run limits steps) s o after → OfEach P (run limits steps) →
      (k : ℕ) → Dec (IsOf (suc k) s) → (found : Operation) → get_or after.actors k None ≡ Some found → P after found
  of_each_after steps s o after m h k (no other) found at_k =
      let (was, at_was, same) = of_others (run limits steps) s o after m k other found at_k in
      rw same (others steps s o after m k other was at_was (h k was at_was))
  of_each_after steps s o after (Begins {actor} {call} {number} d) h k (yes own) found at_k =
      rw (of_begin (run limits steps) actor call (begun_operation (run limits steps) call number) k own found at_k) (begins steps actor call number d)
  of_each_after steps s o after (Goes {actor} {operation} d is a g) h k (yes own) found at_k =
      rw (of_itself (run limits steps) actor operation k own found at_k)
      (goes steps actor operation is (rw a g) (of_running P (run limits steps) h actor operation is))
  of_each_after steps s o after (Ends {actor} d is a) h k (yes own) found at_k = absurd (of_end (run limits steps) actor k own found at_k)
  of_each_after steps s o after (GivesUp {actor} {operation} {answer} d is a) h k (yes own) found at_k =
      subst (λ x. P (settled (run limits steps) (with_operation (run limits steps) actor (Some (gave_up operation answer)))) x)
      (of_giving_up (run limits steps) actor operation answer k own found at_k)
      (gives_up steps actor operation answer is a (of_running P (run limits steps) h actor operation is))
  of_each_after steps s o after (Sweeps spent) h k (yes own) found at_k = absurd own

  -- at first there is none
  none_at_first : OfEach P (first_state limits)
  unfolding first_state
  none_at_first k found at_k = absurd (none_found limits.actors k found at_k)

  -- then it holds of each running operation after every run
  pub of_each_along : (steps : List Step) → OfEach P (run limits steps)
  of_each_along = along limits (OfEach P) none_at_first (λ steps s o after m h k. of_each_after steps s o after m h k (is_of (suc k) s))
