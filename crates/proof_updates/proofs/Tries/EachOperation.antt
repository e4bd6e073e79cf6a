-- What holds of each running operation, along a run: with the move by which it goes on.
use Rattle.std.proofs.Common.{◌≡◌, ℕ, zero, suc, ◌<◌, ◌≤◌, Bool, Option, None, Some, get_or, sym, subst, ap, ◌∙◌, refl}
use Rattle.proof_updates.specs.Vocabulary.{Call, Operation, Bounds, Outcome, Step, State, first_state, action_of, operation_after, begin_denial, Moves, GoesOn, begun_operation, turns, noted_turn}
use Rattle.proof_updates.specs.Vocabulary.{IsRun, Turn, Record, moment_at, noted_progress, noted, progress_of, told_in, given_up, gave_up, Reply, Notes}
use Rattle.proof_updates.specs.Beneath.machine_model.specs.declared.steps.Step.TheVariants as step
use Rattle.proof_updates.specs.Beneath.machine_model.proofs.Actors.{mark_one, mark_only, marks_in}
use Rattle.proof_updates.specs.Beneath.machine_model.proofs.Found.{none_found}
use Rattle.proof_updates.specs.Beneath.machine_model.proofs.Times.{along_run}
use Rattle.proof_updates.specs.Beneath.proof_generations.proofs.Handles.Running.{Comes, began, rested, went, comes, gave}
use Rattle.proof_updates.specs.Beneath.proof_generations.specs.Running.{Runs}
use Rattle.proof_updates.specs.Beneath.machine_model.proofs.Alike.{moment_rests}
use Rattle.proof_updates.specs.Beneath.machine_model.proofs.Notes.{noted_going}

-- a step of the operation at place k
pub record OwnStep (states : ℕ → State) (records : ℕ → Record) (t k : ℕ) (operation : Operation) : Type 0 where
  pub outcome : Outcome
  pub moves : Moves (states t) (step.Go (suc k)) outcome (states (suc t))
  pub runs : Runs (states t) k operation
  pub goes : GoesOn (action_of (states t) operation)
  pub noted : records (suc t) ≡ noted_progress (records t) (states t).steps (suc k) (progress_of (states t) operation)

-- so it is recorded
pub own_notes : (states : ℕ → State) (records : ℕ → Record) (t k : ℕ) (operation : Operation) → OwnStep states records t k operation → Notes states records t (step.Go (suc k))
own_notes states records t k operation own = own.noted ∙ sym (noted_going (states t) (records t) (suc k) operation (action_of (states t) operation) own.runs refl own.goes)

-- P of a time, a place and an operation, whatever its mark, holds of an operation that begins or gives up, and is kept by its own steps and by all others
module _ {limits : Bounds} {states : ℕ → State} {last : ℕ} (run : IsRun limits states last) (P : ℕ → ℕ → Operation → Type 0)
    (marks : (t k : ℕ) (operation : Operation) (b : Bool) → P t k operation → P t k (record operation { is_marked = b }))
    (begins : (t k : ℕ) → t < last → (call : Call) (number : Option ℕ) (o : Outcome) → Moves (states t) (step.Begin (suc k) call number) o (states (suc t)) →
    begin_denial (states t) (suc k) call number ≡ None →
    Notes states run.records t (step.Begin (suc k) call number) → P (suc t) k (begun_operation (states t) call number))
    (gives_up : (t k : ℕ) → t < last → (operation : Operation) (answer : Reply) → Runs (states t) k operation → given_up operation.call operation.line ≡ Some answer →
    (o : Outcome) → Moves (states t) (step.GiveUp (suc k)) o (states (suc t)) → run.records (suc t) ≡ run.records t → P t k operation → P (suc t) k (gave_up operation answer))
    (rests : (t k : ℕ) → t < last → (operation : Operation) → Runs (states t) k operation →
    moment_at (run.records (suc t)) (suc k) ≡ moment_at (run.records t) (suc k) → P t k operation → P (suc t) k operation)
    (goes : (t k : ℕ) → t < last → (operation : Operation) → OwnStep states run.records t k operation → P t k operation → P (suc t) k (operation_after (states t) operation)) where
  AllAt : ℕ → Type 0
  AllAt t = (k : ℕ) (operation : Operation) → Runs (states t) k operation → P t k operation

  but_for_mark : (t k : ℕ) (m : Option ℕ) (operation : Operation) → P t k operation → P t k (mark_one m operation)
  but_for_mark t k m operation p = subst (λ x. P t k x) (sym (mark_only m operation)) (marks t k operation ((mark_one m operation).is_marked) p)

  next_by : (t : ℕ) → t < last → AllAt t → (s : Step) (o : Outcome) → Moves (states t) s o (states (suc t)) → Notes states run.records t s → (k : ℕ) (found : Operation) →
      Comes (states t) s k found → P (suc t) k found
  unfolding AllAt
  next_by t lt all s o m notes k found (began call number is_step d is) = subst (λ x. P (suc t) k x) (sym is)
      (begins t k lt call number o (subst (λ x. Moves (states t) x o (states (suc t))) is_step m) d (subst (λ x. Notes states run.records t x) is_step notes))
  next_by t lt all s o m notes k found (rested was at_k is other_step) =
      subst (λ x. P (suc t) k x) (sym is) (but_for_mark (suc t) k (marks_in (states t) s) was
      (rests t k lt was at_k (ap (λ r. moment_at r (suc k)) notes ∙ moment_rests (states t) (run.records t) s o (states (suc t)) m k other_step) (all k was at_k)))
  next_by t lt all s o m notes k found (went was is_step at_k g is) =
      let own : OwnStep states run.records t k was = record {
        outcome = o;
        moves = subst (λ x. Moves (states t) x o (states (suc t))) is_step m;
        runs = at_k;
        goes = g;
        noted = notes ∙ ap (λ x. noted (run.records t) (states t).steps (told_in (states t) x)) is_step ∙ noted_going (states t) (run.records t) (suc k) was (action_of (states t) was) at_k refl g;
      } in
      subst (λ x. P (suc t) k x) (sym is) (but_for_mark (suc t) k (marks_in (states t) s) (operation_after (states t) was) (goes t k lt was own (all k was at_k)))
  next_by t lt all s o m notes k found (gave was answer is_step at_k may is) =
      subst (λ x. P (suc t) k x) (sym is)
      (gives_up t k lt was answer at_k may o (subst (λ x. Moves (states t) x o (states (suc t))) is_step m)
      (notes ∙ ap (λ x. noted (run.records t) (states t).steps (told_in (states t) x)) is_step) (all k was at_k))

  next : (t : ℕ) → t < last → (turn : Turn (states t) (states (suc t))) → run.records (suc t) ≡ noted_turn turn (run.records t) → AllAt t → AllAt (suc t)
  unfolding AllAt
  next t lt (turns s o m) notes all k found at_k = next_by t lt all s o m notes k found (comes (states t) s o (states (suc t)) m k found at_k)

  none_at_first : AllAt zero
  unfolding AllAt first_state
  none_at_first k operation at_k = absurd (none_found limits.actors k operation (subst (λ (s : State). get_or s.actors k None ≡ Some operation) run.first at_k))

  pub each_operation : (t : ℕ) → t ≤ last → (k : ℕ) (operation : Operation) → Runs (states t) k operation → P t k operation
  unfolding AllAt
  each_operation = along_run run AllAt none_at_first (λ t lt turn all. next t lt (run.turn t lt) (run.recorded t lt) all)
