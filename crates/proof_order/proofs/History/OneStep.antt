-- What a step makes of each running operation, exactly.
use Rattle.std.proofs.Common.{◌≡◌, ℕ, suc, Some, refl, sym, ap, subst, ◌∙◌}
use Rattle.proof_order.specs.Vocabulary.{Operation, Outcome, Step, State, action_of, operation_after, Moves, GoesOn, given_up, gave_up, Reply}
use Rattle.proof_order.specs.Beneath.machine_model.specs.declared.steps.Step.TheVariants as step
use Rattle.proof_order.specs.Beneath.machine_model.proofs.Actors.{IsOf, mark_one, marks_in, marks_by}
use Rattle.proof_order.specs.Beneath.machine_model.proofs.Fates as came
use Rattle.proof_order.specs.Beneath.machine_model.proofs.Fates.{Comes, comes}
use Rattle.proof_order.specs.Facts.{Runs}
use Rattle.proof_order.proofs.History.Running.{IsBegun}

-- where an operation that runs after a step comes from
pub data From (state : State) (s : Step) (k : ℕ) (found : Operation) : Type 0 where
  began : IsBegun state s k found → From state s k found
  kept : (operation : Operation) → Runs state k operation → found ≡ mark_one (marks_in state s) operation → (s ≡ step.Go (suc k) → ⊥) → From state s k found
  stepped : (operation : Operation) → Runs state k operation → s ≡ step.Go (suc k) → GoesOn (action_of state operation) →
      found ≡ mark_one (marks_by state (Some operation)) (operation_after state operation) → From state s k found
  gave : (operation : Operation) (answer : Reply) → Runs state k operation → s ≡ step.GiveUp (suc k) → given_up operation.call operation.line ≡ Some answer →
      found ≡ gave_up operation answer → From state s k found

-- which is what comes of every step (`Comes`), its marks told by the operation
from_of : (state : State) (s : Step) (k : ℕ) (found : Operation) → Comes state s k found → From state s k found
from_of state s k found (came.began call number is d it) = began (record { call = call; number = number; is_step = is; is_it = it })
from_of state s k found (came.rested was at same other) = kept was at same (λ e. other (subst (λ x. IsOf (suc k) x) (sym e) refl))
from_of state s k found (came.went was is at g it) =
    stepped was at is g (it ∙ ap (λ x. mark_one (marks_in state x) (operation_after state was)) is ∙ ap (λ x. mark_one (marks_by state x) (operation_after state was)) at)
from_of state s k found (came.gave was answer is at a it) = gave was answer at is a it

pub from : (state : State) (s : Step) (o : Outcome) (after : State) → Moves state s o after → (k : ℕ) (found : Operation) → Runs after k found → From state s k found
from state s o after m k found at_k = from_of state s k found (comes state s o after m k found at_k)
