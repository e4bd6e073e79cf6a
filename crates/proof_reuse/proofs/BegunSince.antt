-- Who ran nothing at some time runs later only what has begun since.
use Rattle.std.proofs.Common.{◌≡◌, ◌≤◌, ◌++◌, ℕ, zero, suc, List, [], ◌∷◌, get_or, Option, Some, None, sym, ap, ◌∙◌, subst, arith, append_assoc, append-nil}
use Rattle.std.proofs.lemmas.Option.{none-some}
use Rattle.proof_reuse.specs.Beneath.proof_garbage.specs.Beneath.history.specs.declared.calls.Call.{Call}
use Rattle.proof_reuse.specs.Beneath.machine_model.specs.declared.operations.Operation.{Operation}
use Rattle.proof_reuse.specs.Beneath.machine_model.specs.declared.steps.Bounds.{Bounds}
use Rattle.proof_reuse.specs.Beneath.machine_model.specs.declared.steps.Outcome.{Outcome}
use Rattle.proof_reuse.specs.Beneath.machine_model.specs.declared.steps.Step.{Step}
use Rattle.proof_reuse.specs.Beneath.machine_model.specs.Acting.{operation_after}
use Rattle.proof_reuse.specs.Beneath.machine_model.specs.Calls.{handle_of}
use Rattle.proof_reuse.specs.Beneath.machine_model.specs.Machine.{run, next_state, begin_denial}
use Rattle.proof_reuse.specs.Beneath.machine_model.specs.Moves.{Moves, GoesOn, begun_operation, Begins, Goes, Ends, Sweeps, GivesUp}
use Rattle.proof_reuse.specs.Beneath.machine_model.specs.Operations.{action_of}
use Rattle.proof_reuse.specs.Beneath.machine_model.specs.States.{State, first_state, operation_of}
use Rattle.proof_reuse.specs.Beneath.machine_model.proofs.Actors.{IsOf, mark_one, mark_only, marks_in, marks_by}
use Rattle.proof_reuse.specs.Beneath.machine_model.proofs.Along.{run_push, kept_by_moves}
use Rattle.proof_reuse.specs.Beneath.machine_model.proofs.Frames.{acted_framed}
use Rattle.proof_reuse.specs.Beneath.proof_memory.proofs.Safety.EachStep.{each_after}
use Rattle.proof_reuse.specs.Beneath.proof_garbage.specs.Grace.{HaveEnded}

-- in such a place there is nothing that began earlier
abbrev pub Newer : (ℕ → Type 0) → ℕ → ℕ → Operation → Type 0
Newer Of begun k operation = Of k → begun ≤ operation.id

pub record Since (Of : ℕ → Type 0) (begun : ℕ) (state : State) : Type 0 where
  pub later : begun ≤ state.begun
  pub newer : (k : ℕ) (operation : Operation) → get_or state.actors k None ≡ Some operation → Newer Of begun k operation

module _ (Of : ℕ → Type 0) (begun : ℕ) (state : State) (h : Since Of begun state) where
  begins : (actor : ℕ) (call : Call) (number : Option ℕ) (k : ℕ) → actor ≡ suc k → begin_denial state actor call number ≡ None → Newer Of begun k (begun_operation state call number)
  begins actor call number k own d of = h.later

  goes : (actor : ℕ) (operation : Operation) (k : ℕ) → actor ≡ suc k → operation_of state actor ≡ Some operation → GoesOn (action_of state operation) → Newer Of begun k operation →
      Newer Of begun k (mark_one (marks_by state (Some operation)) (operation_after state operation))
  goes actor operation k own is g e = rw (mark_only (marks_by state (Some operation)) (operation_after state operation)) e

  others : (s : Step) (o : Outcome) (after : State) → Moves state s o after → (k : ℕ) → (IsOf (suc k) s → ⊥) → (operation : Operation) → get_or state.actors k None ≡ Some operation →
      Newer Of begun k operation → Newer Of begun k (mark_one (marks_in state s) operation)
  others s o after m k other operation found e = rw (mark_only (marks_in state s) operation) e

  begun_grows : (s : Step) (o : Outcome) (after : State) → Moves state s o after → begun ≤ after.begun
  begun_grows s o after (Begins d) = omega (arith, h.later)
  begun_grows s o after (Goes {actor} {operation} d is a g) = subst (λ n. begun ≤ n) (sym (acted_framed _ (handle_of operation.call) (action_of state operation)).begun) h.later
  begun_grows s o after (Ends d is a) = h.later
  begun_grows s o after (Sweeps spent) = h.later
  begun_grows s o after (GivesUp d is a) = h.later

  since_after : (s : Step) (o : Outcome) (after : State) → Moves state s o after → Since Of begun after
  since_after s o after m = record {
    later = begun_grows s o after m;
    newer = each_after state (λ k operation. Newer Of begun k operation) (λ after k operation. Newer Of begun k operation) h.newer begins goes
        (λ actor operation answer k own is a e. e) others s o after m;
  }

module _ (limits : Bounds) (before : List Step) (Of : ℕ → Type 0) (begun : ℕ) where
  along : (a b : List Step) → Since Of begun (run limits (before ++ a)) → Since Of begun (run limits (before ++ (a ++ b)))
  along a [] h = subst (λ l. Since Of begun (run limits (before ++ l))) (sym (append-nil a)) h
  along a (s ∷ b) h =
      let moved : run limits (before ++ (a ++ s ∷ [])) ≡ next_state (run limits (before ++ a)) s =
      ap (run limits) (sym (append_assoc before a (s ∷ []))) ∙ run_push (first_state limits) (before ++ a) s in
      subst (λ l. Since Of begun (run limits (before ++ l))) (append_assoc a (s ∷ []) b)
      (along (a ++ s ∷ []) b (subst (Since Of begun) (sym moved)
      (kept_by_moves (Since Of begun) (run limits (before ++ a)) s h (λ o after m. since_after Of begun (run limits (before ++ a)) h s o after m))))

  pub since_along : (since : List Step) → Since Of begun (run limits before) → Since Of begun (run limits (before ++ since))
  since_along since h = along [] since (subst (λ l. Since Of begun (run limits l)) (sym (append-nil before)) h)

-- operations are numbered as they begin
pub begun_later : (limits : Bounds) (before since : List Step) → (run limits before).begun ≤ (run limits (before ++ since)).begun
begun_later limits before since =
    (since_along limits before (λ k. ⊥) (run limits before).begun since (record { later = omega arith; newer = λ k operation found never. absurd never })).later

-- who have ended have ended for good
pub ended_still : (limits : Bounds) (first middle last : List Step) → HaveEnded (run limits first) (run limits (first ++ middle)) →
    HaveEnded (run limits first) (run limits ((first ++ middle) ++ last))
ended_still limits first middle last ended zero operation runs = absurd (none-some operation runs)
ended_still limits first middle last ended (suc k) operation runs =
    (since_along limits (first ++ middle) (λ j. Unit {0}) (run limits first).begun last
    (record { later = begun_later limits first middle; newer = λ j o found of. ended (suc j) o found })).newer k operation runs tt
