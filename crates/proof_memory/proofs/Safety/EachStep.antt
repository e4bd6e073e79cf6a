-- What each running operation meets after one step, by what it met before: the operation that begins, the one that goes on, the one that gives up, and all others.
use Rattle.std.proofs.Common.{Option, ◌≡◌, ℕ, suc, Some, None, get_or, ap, ◌∙◌, sym, subst}
use Rattle.proof_memory.specs.Vocabulary.{Call, Reply, Operation, Outcome, Step, State, operation_of, with_operation, given_up, gave_up, action_of, operation_after, gone, settled, begin_denial}
use Rattle.proof_memory.specs.Vocabulary.{with_begin, Begins, Ends, Sweeps, GivesUp, Moves, GoesOn, begun_operation}
use Rattle.machine_model.specs.Moves.{Goes}
use Rattle.machine_model.proofs.Actors.{IsOf, is_of, mark_one, marks_in, marks_by, of_others, of_itself, of_begin, of_end, of_giving_up}

-- the place of an actor's operation
pub at_place : (state : State) (actor k : ℕ) (operation : Operation) → actor ≡ suc k → operation_of state actor ≡ Some operation → get_or state.actors k None ≡ Some operation
at_place state actor k operation e is = sym (ap (λ a. operation_of state a) e) ∙ is

module _ (state : State) (P : ℕ → Operation → Type 0) (Q : State → ℕ → Operation → Type 0)
    (before : (k : ℕ) (operation : Operation) → get_or state.actors k None ≡ Some operation → P k operation)
    (begins : (actor : ℕ) (call : Call) (number : Option ℕ) (k : ℕ) → actor ≡ suc k → begin_denial state actor call number ≡ None →
    Q (settled state (with_begin state actor call (begun_operation state call number))) k (begun_operation state call number))
    (goes : (actor : ℕ) (operation : Operation) (k : ℕ) → actor ≡ suc k → operation_of state actor ≡ Some operation → GoesOn (action_of state operation) → P k operation →
    Q (settled state (gone state actor operation)) k (mark_one (marks_by state (Some operation)) (operation_after state operation)))
    (gives_up : (actor : ℕ) (operation : Operation) (answer : Reply) (k : ℕ) → actor ≡ suc k → operation_of state actor ≡ Some operation →
    given_up operation.call operation.line ≡ Some answer → P k operation → Q (settled state (with_operation state actor (Some (gave_up operation answer)))) k (gave_up operation answer))
    (others : (s : Step) (o : Outcome) (after : State) → Moves state s o after → (k : ℕ) → (IsOf (suc k) s → ⊥) → (operation : Operation) → get_or state.actors k None ≡ Some operation →
    P k operation → Q after k (mark_one (marks_in state s) operation)) where
  by_owner : (s : Step) (o : Outcome) (after : State) → Moves state s o after → (k : ℕ) → Dec (IsOf (suc k) s) → (found : Operation) → get_or after.actors k None ≡ Some found → Q after k found
  by_owner s o after m k (no other) found at_k =
      let (was, at_was, same) = of_others state s o after m k other found at_k in
      rw same (others s o after m k other was at_was (before k was at_was))
  by_owner s o after (Begins {actor} {call} {number} d) k (yes own) found at_k =
      rw (of_begin state actor call (begun_operation state call number) k own found at_k) (begins actor call number k own d)
  by_owner s o after (Goes {actor} {operation} d is a g) k (yes own) found at_k =
      rw (of_itself state actor operation k own found at_k) (goes actor operation k own is (rw a g) (before k operation (at_place state actor k operation own is)))
  by_owner s o after (Ends {actor} d is a) k (yes own) found at_k = absurd (of_end state actor k own found at_k)
  by_owner s o after (GivesUp {actor} {operation} {answer} d is a) k (yes own) found at_k =
      subst (Q (settled state (with_operation state actor (Some (gave_up operation answer)))) k) (of_giving_up state actor operation answer k own found at_k)
      (gives_up actor operation answer k own is a (before k operation (at_place state actor k operation own is)))
  by_owner s o after (Sweeps spent) k (yes own) found at_k = absurd own

  pub each_after : (s : Step) (o : Outcome) (after : State) → Moves state s o after → (k : ℕ) (found : Operation) → get_or after.actors k None ≡ Some found → Q after k found
  each_after s o after m k = by_owner s o after m k (is_of (suc k) s)
