-- Who takes each step of a run, and what holds of each running operation, by what held of all of them before a step and by who takes it.
use Rattle.std.proofs.Common.{◌≡◌, ℕ, zero, suc, ◌<◌, ◌≤◌, ◌⊎◌, ◌==◌, nat_lt, Bool, true, false, cond}
use Rattle.std.proofs.Common.{Option, Some, None, inl, inr, refl, sym, ◌∙◌, ap, subst, arith, ltb-true, ltb-false, slice_index_or}
use Rattle.std.proofs.lemmas.Bool.{cases_eq}
use Rattle.std.proofs.lemmas.Option.{none-some}
use Rattle.proof_shape.specs.Vocabulary.{Call, Operation, Bounds, Outcome, action_of, gone, operation_after, GoesOn, begun_operation, State, operation_of, settled, begin_denial, with_begin, IsRun}
use Rattle.proof_shape.specs.Vocabulary.{Record, noted_progress, moment_at, no_moment, with_moment, moment_after, progress_of, Moment, given_up, gave_up, Reply}
use Rattle.proof_shape.specs.Beneath.machine_model.specs.declared.steps.Step.TheVariants as step
use Rattle.proof_shape.specs.Beneath.machine_model.specs.Moves as Machine
use Rattle.proof_shape.specs.Beneath.machine_model.proofs.Actors.{marks_by, begin_counts}
use Rattle.proof_shape.specs.Beneath.proof_commits.proofs.Course.Finals.{from_time}
use Rattle.proof_shape.specs.Beneath.proof_commits.proofs.Known.StepsAt.{NotedAt, NotesBegin, NotesGo, NotesEnd, NotesSweep, noted_at, after_mark}
use Rattle.proof_shape.specs.Beneath.proof_commits.proofs.Known.StepsAt.{go_others, go_own, end_others, end_own, NotesGivingUp, give_up_own, give_up_others}
use Rattle.proof_shape.specs.Beneath.proof_commits.proofs.Known.StepsAt.{begin_others, begin_own, actor_counts}
use Rattle.proof_shape.specs.Beneath.proof_commits.proofs.Words.First.{idle_at_first}
use Rattle.proof_shape.specs.Lines.Knowing.{OfEachAt}
use Rattle.proof_shape.specs.Beneath.machine_model.proofs.Alike.{moment_others}
use Rattle.std.proofs.lemmas.Option.{same_Some}

-- step t is the actor's operation's own, and not its end
pub record GoesAt (states : ℕ → State) (records : ℕ → Record) (t actor : ℕ) (operation : Operation) : Type 0 where
  pub o : Outcome
  pub moves : Machine.Moves (states t) (step.Go actor) o (states (suc t))
  pub runs : operation_of (states t) actor ≡ Some operation
  pub goes : GoesOn (action_of (states t) operation)
  pub after : states (suc t) ≡ settled (states t) (gone (states t) actor operation)
  pub noted : records (suc t) ≡ noted_progress (records t) (states t).steps actor (progress_of (states t) operation)

-- what is known of READs is by the moments alone
moment_in : (past now : Record) (k : ℕ) → past.moments ≡ now.moments → moment_at past k ≡ moment_at now k
moment_in past now zero e = refl
moment_in past now (suc n) e = ap (λ ms. slice_index_or ms n no_moment) e

-- the actor that takes a step; 0 for the sweep
abbrev pub taker_of : {before after : State} {past now : Record} → NotedAt before past after now → ℕ
taker_of (NotesBegin actor call number o m d e n) = actor
taker_of (NotesGo actor operation o m d is g e n) = actor
taker_of (NotesEnd actor operation answer o m is a e n) = actor
taker_of (NotesSweep o m e n) = 0
taker_of (NotesGivingUp actor operation answer o m is a e n) = actor

module _ (limits : Bounds) (states : ℕ → State) (last : ℕ) (run : IsRun limits states last) where
  taker_by : (t : ℕ) (b : Bool) → nat_lt t last ≡ b → ℕ
  taker_by t true e = taker_of (noted_at (run.turn t (ltb-true t last e)) (run.recorded t (ltb-true t last e)))
  taker_by t false e = 0

  -- who takes step t
  pub taker : ℕ → ℕ
  taker t = taker_by t (nat_lt t last) refl

  pub step_taken : (t : ℕ) → t < last → (x : NotedAt (states t) (run.records t) (states (suc t)) (run.records (suc t))) × (taker t ≡ taker_of x)
  unfolding taker taker_by
  step_taken t h = by_test (nat_lt t last) refl
    where
      by_test : (b : Bool) (e : nat_lt t last ≡ b) → (x : NotedAt (states t) (run.records t) (states (suc t)) (run.records (suc t))) × (taker_by t b e ≡ taker_of x)
      by_test true e = (noted_at (run.turn t (ltb-true t last e)) (run.recorded t (ltb-true t last e)), refl)
      by_test false e = let late : last ≤ t = ltb-false t last e in absurd (omega arith)

  -- what is known of another's READs is left
  pub moment_kept : (t : ℕ) → t < last → (k : ℕ) → (taker t ≡ k → ⊥) → moment_at (run.records (suc t)) k ≡ moment_at (run.records t) k
  moment_kept t h k apart = by_step (step_taken t h).0 (step_taken t h).1
    where
      written : (actor : ℕ) (m : Moment) → 0 < actor → taker t ≡ actor → (run.records (suc t)).moments ≡ with_moment (run.records t) actor m →
          moment_at (run.records (suc t)) k ≡ moment_at (run.records t) k
      written actor m pos takes e =
          moment_in (run.records (suc t)) (record (run.records t) { moments = with_moment (run.records t) actor m }) k e
          ∙ moment_others (run.records t) actor k m pos (λ same. apart (takes ∙ sym same))

      by_step : (x : NotedAt (states t) (run.records t) (states (suc t)) (run.records (suc t))) → taker t ≡ taker_of x →
          moment_at (run.records (suc t)) k ≡ moment_at (run.records t) k
      by_step (NotesBegin actor call number o m d e n) takes = written actor no_moment (begin_counts (states t) actor call number d) takes (ap (λ (r : Record). r.moments) n)
      by_step (NotesGo actor operation o m d is g e n) takes =
          written actor (moment_after (run.records t) (states t).steps (progress_of (states t) operation) (moment_at (run.records t) actor))
          (actor_counts (states t) actor operation is) takes (ap (λ (r : Record). r.moments) n)
      by_step (NotesEnd actor operation answer o m is a e n) takes =
          moment_in (run.records (suc t)) (run.records t) k (ap (λ (r : Record). r.moments) n)
      by_step (NotesSweep o m e n) takes = ap (λ r. moment_at r k) n
      by_step (NotesGivingUp actor operation answer o m is a e n) takes = ap (λ r. moment_at r k) n

  module _ (P : ℕ → ℕ → Operation → Type 0) (with_mark : (t actor : ℕ) (operation : Operation) → P t actor operation → P t actor (record operation { is_marked = true })) where
    -- of each running operation before step t
    abbrev pub AllAt : ℕ → Type 0
    AllAt t = (k : ℕ) (operation : Operation) → operation_of (states t) k ≡ Some operation → P t k operation

    module _ (begins : (t : ℕ) → t < last → (actor : ℕ) (call : Call) (number : Option ℕ) → begin_denial (states t) actor call number ≡ None → taker t ≡ actor →
        states (suc t) ≡ settled (states t) (with_begin (states t) actor call (begun_operation (states t) call number)) → P (suc t) actor (begun_operation (states t) call number))
        (goes : (t : ℕ) → t < last → (actor : ℕ) (operation : Operation) → GoesAt states run.records t actor operation → taker t ≡ actor → AllAt t →
        P (suc t) actor (operation_after (states t) operation))
        (gives_up : (t : ℕ) → t < last → (actor : ℕ) (operation : Operation) (answer : Reply) → operation_of (states t) actor ≡ Some operation →
        given_up operation.call operation.line ≡ Some answer → AllAt t → P (suc t) actor (gave_up operation answer))
        (stays : (t : ℕ) → t < last → (actor : ℕ) (operation : Operation) → operation_of (states t) actor ≡ Some operation → (taker t ≡ actor → ⊥) → AllAt t → P (suc t) actor operation) where
      mark_by : (t k : ℕ) (x : Option Operation) → ((operation : Operation) → x ≡ Some operation → P t k operation) → (m : Option ℕ) (found : Operation) → after_mark m x ≡ Some found → P t k found
      mark_by t k x all None found e = all found e
      mark_by t k None all (Some id) found e = absurd (none-some found e)
      mark_by t k (Some operation) all (Some id) found e = by_test (operation.id == id) e
        where
          by_test : (b : Bool) → Some (cond b (record operation { is_marked = true }) operation) ≡ Some found → P t k found
          by_test true e = let same : record operation { is_marked = true } ≡ found = cc in subst (P t k) same (with_mark t k operation (all operation refl))
          by_test false e = let same : operation ≡ found = cc in subst (P t k) same (all operation refl)

      others : (t : ℕ) → t < last → AllAt t → (m : Option ℕ) (k : ℕ) → (taker t ≡ k → ⊥) → operation_of (states (suc t)) k ≡ after_mark m (operation_of (states t) k) →
          (found : Operation) → operation_of (states (suc t)) k ≡ Some found → P (suc t) k found
      others t h so_far m k apart e found is = mark_by (suc t) k (operation_of (states t) k) (λ operation at. stays t h k operation at apart so_far) m found (sym e ∙ is)

      each_next : (t : ℕ) → t < last → AllAt t → (x : NotedAt (states t) (run.records t) (states (suc t)) (run.records (suc t))) → taker t ≡ taker_of x → AllAt (suc t)
      each_next t h so_far (NotesBegin actor call number o m d e n) takes k found is = by_actor (cases_eq k actor)
        where
          own : (operation_of (states (suc t)) actor ≡ None) ⊎ (operation_of (states (suc t)) actor ≡ Some (begun_operation (states t) call number))
          own = subst (λ (s : State). (operation_of s actor ≡ None) ⊎ (operation_of s actor ≡ Some (begun_operation (states t) call number))) (sym e)
              (begin_own (states t) actor call (begun_operation (states t) call number))

          begun : (operation_of (states (suc t)) actor ≡ None) ⊎ (operation_of (states (suc t)) actor ≡ Some (begun_operation (states t) call number)) →
              operation_of (states (suc t)) actor ≡ Some found → P (suc t) actor found
          begun (inl none) at = absurd (none-some found (sym none ∙ at))
          begun (inr some) at =
              let same : Some (begun_operation (states t) call number) ≡ Some found = sym some ∙ at in let is_it : begun_operation (states t) call number ≡ found = cc in
              subst (P (suc t) actor) is_it (begins t h actor call number d takes e)

          by_actor : (k ≡ actor) ⊎ (k ≡ actor → ⊥) → P (suc t) k found
          by_actor (inl same) = subst (λ q. P (suc t) q found) (sym same) (begun own (ap (operation_of (states (suc t))) (sym same) ∙ is))
          by_actor (inr apart) =
              others t h so_far None k (λ it. apart (sym (sym takes ∙ it)))
              (ap (λ (s : State). operation_of s k) e ∙ begin_others (states t) actor call (begun_operation (states t) call number) (begin_counts (states t) actor call number d) k apart) found is
      each_next t h so_far (NotesGo actor operation o m d runs g e n) takes k found is = by_actor (cases_eq k actor)
        where
          marks : Option ℕ
          marks = marks_by (states t) (Some operation)

          own : operation_of (states (suc t)) actor ≡ after_mark marks (Some (operation_after (states t) operation))
          own = ap (λ (s : State). operation_of s actor) e ∙ go_own (states t) actor operation runs

          gone : P (suc t) actor (operation_after (states t) operation)
          gone = goes t h actor operation (record { o = o; moves = m; runs = runs; goes = g; after = e; noted = n }) takes so_far

          by_actor : (k ≡ actor) ⊎ (k ≡ actor → ⊥) → P (suc t) k found
          by_actor (inl same) =
              subst (λ q. P (suc t) q found) (sym same)
              (mark_by (suc t) actor (Some (operation_after (states t) operation))
              (λ x at. (let is_it : operation_after (states t) operation ≡ x = cc in subst (P (suc t) actor) is_it gone)) marks found
              (sym own ∙ ap (operation_of (states (suc t))) (sym same) ∙ is))
          by_actor (inr apart) =
              others t h so_far marks k (λ it. apart (sym (sym takes ∙ it)))
              (ap (λ (s : State). operation_of s k) e ∙ go_others (states t) actor operation (actor_counts (states t) actor operation runs) k apart) found is
      each_next t h so_far (NotesEnd actor operation answer o m runs a e n) takes k found is = by_actor (cases_eq k actor)
        where
          by_actor : (k ≡ actor) ⊎ (k ≡ actor → ⊥) → P (suc t) k found
          by_actor (inl same) =
              absurd (none-some found (sym (ap (λ (s : State). operation_of s actor) e ∙ end_own (states t) actor operation answer) ∙ ap (operation_of (states (suc t))) (sym same) ∙ is))
          by_actor (inr apart) =
              others t h so_far None k (λ it. apart (sym (sym takes ∙ it)))
              (ap (λ (s : State). operation_of s k) e ∙ end_others (states t) actor operation answer (actor_counts (states t) actor operation runs) k apart) found is
      each_next t h so_far (NotesGivingUp actor operation answer o m runs a e n) takes k found is = by_actor (cases_eq k actor)
        where
          own : operation_of (states (suc t)) actor ≡ Some (gave_up operation answer)
          own = ap (λ (s : State). operation_of s actor) e ∙ give_up_own (states t) actor operation answer runs

          by_actor : (k ≡ actor) ⊎ (k ≡ actor → ⊥) → P (suc t) k found
          by_actor (inl same) =
              subst (λ q. P (suc t) q found) (sym same)
              (subst (P (suc t) actor) (same_Some _ _ (sym own ∙ ap (operation_of (states (suc t))) (sym same) ∙ is)) (gives_up t h actor operation answer runs a so_far))
          by_actor (inr apart) =
              others t h so_far None k (λ it. apart (sym (sym takes ∙ it)))
              (ap (λ (s : State). operation_of s k) e ∙ give_up_others (states t) actor operation answer (actor_counts (states t) actor operation runs) k apart) found is
      each_next t h so_far (NotesSweep o m e n) takes k found is =
          others t h so_far None k (λ it. not_zero (sym it ∙ takes) is) (ap (λ (s : State). operation_of s k) e) found is
        where
          not_zero : k ≡ 0 → operation_of (states (suc t)) k ≡ Some found → ⊥
          not_zero zero_is at = none-some found (sym (ap (operation_of (states (suc t))) zero_is) ∙ at)

      pub each_with : OfEachAt states last P
      each_with t h =
          from_time AllAt zero last (λ k operation is. absurd (none-some operation (sym (idle_at_first limits run.limits_ok states run.first k) ∙ is)))
          (λ v low within so_far. let x = step_taken v within in each_next v within so_far x.0 x.1) t (omega arith) h
