-- What each running operation's line remembers, along a run: whatever is so of each main node that a READ of the operation gave, and
-- stays so, is so of those that its line remembers. This needs nothing of memory.
use Rattle.std.proofs.Common.{◌≡◌, ℕ, zero, suc, ◌<◌, ◌≤◌, ◌⊎◌, Bool, true, false, cond, ◌==◌, Option, Some, None, inl, inr, sym, ◌∙◌, ap, subst, arith}
use Rattle.std.proofs.lemmas.Bool.{cases_eq}
use Rattle.proof_commits.specs.Vocabulary.{Writable, Call, Ref, Operation, Gives, ReadLine, Bounds, Outcome, handle_of, State, operation_of, word_at, read_after, first_line, marked, operation_after}
use Rattle.proof_commits.specs.Vocabulary.{noted_progress, progress_of, begun_operation, IsRun}
use Rattle.proof_commits.specs.Beneath.machine_model.specs.declared.steps.Step.TheVariants as step
use Rattle.proof_commits.specs.Beneath.machine_model.proofs.Actors.{marks_by, begin_counts}
use Rattle.proof_commits.specs.Beneath.machine_model.specs.Moves as Machine
use Rattle.proof_commits.specs.Protocol.{Reads}
use Rattle.proof_commits.proofs.Course.Finals.{from_time}
use Rattle.proof_commits.proofs.Lines.Stages.{Remembers, remembers_still}
use Rattle.proof_commits.specs.Stages.{stage_of}
use Rattle.proof_commits.proofs.Known.StepsAt.{NotedAt, NotesBegin, NotesGo, NotesEnd, NotesSweep, noted_at, after_mark, go_others}
use Rattle.proof_commits.proofs.Known.StepsAt.{go_own, end_others, end_own, begin_others, begin_own, actor_counts, NotesGivingUp, give_up_own, give_up_others}
use Rattle.proof_commits.proofs.Lines.Keeps.{line_keeps}
use Rattle.proof_commits.proofs.Words.First.{idle_at_first}

-- of what an actor runs: G says of an operation's id, an indirection and a main node what is so of them
abbrev pub OfActor : (ℕ → Ref → Ref → Type 0) → Option Operation → Type 0
OfActor G None = Unit {0}
OfActor G (Some operation) = Remembers (λ i m. G operation.id i m) (operation.access ≡ Writable) operation.line

of_marked : (G : ℕ → Ref → Ref → Type 0) (id : ℕ) (x : Option Operation) → OfActor G x → OfActor G (marked id x)
of_marked G id None r = r
of_marked G id (Some operation) r = by_mark (operation.id == id)
  where
    by_mark : (b : Bool) → OfActor G (Some (cond b (record operation { is_marked = true }) operation))
    by_mark true = r
    by_mark false = r

of_mark : (G : ℕ → Ref → Ref → Type 0) (m : Option ℕ) (x : Option Operation) → OfActor G x → OfActor G (after_mark m x)
of_mark G None x r = r
of_mark G (Some id) x r = of_marked G id x r

of_later : (G H : ℕ → Ref → Ref → Type 0) → ((id : ℕ) (i m : Ref) → G id i m → H id i m) → (x : Option Operation) → OfActor G x → OfActor H x
of_later G H more None r = r
of_later G H more (Some operation) r =
    remembers_still (λ i m. G operation.id i m) (λ i m. H operation.id i m) (operation.access ≡ Writable) (λ i m g. more operation.id i m g) operation.line r

of_begun : (G : ℕ → Ref → Ref → Type 0) (state : State) (call : Call) (number : Option ℕ) (x : Option Operation) → (x ≡ None) ⊎ (x ≡ Some (begun_operation state call number)) → OfActor G x
of_begun G state call number x (inl e) = subst (λ y. OfActor G y) (sym e) tt
of_begun G state call number x (inr e) = subst (λ y. OfActor G y) (sym e) (at_first _ _ call)
  where
    at_first : (P : Ref → Ref → Type 0) (W : Type 0) (call : Call) → Remembers P W (first_line call)
    at_first P W call = grind arith

-- G of a time and an actor stays so, and is so of what a READ of the actor's operation gives then
module _ (limits : Bounds) (states : ℕ → State) (last : ℕ) (run : IsRun limits states last) (G : ℕ → ℕ → ℕ → Ref → Ref → Type 0)
    (more : (t k id : ℕ) (i m : Ref) → G t k id i m → G (suc t) k id i m)
    (now : (t : ℕ) → t < last → (k : ℕ) (operation : Operation) (o : Outcome) → Machine.Moves (states t) (step.Go k) o (states (suc t)) →
    operation_of (states t) k ≡ Some operation →
    run.records (suc t) ≡ noted_progress (run.records t) (states t).steps k (progress_of (states t) operation) → (i : Ref) (x : ReadLine) (m : Ref) →
    stage_of operation.line ≡ Reads i x →
    read_after (states t).heap operation.access (word_at (states t) (handle_of operation.call)) i x ≡ Gives m → G (suc t) k operation.id i m) where
  abbrev At : ℕ → ℕ → Type 0
  At t k = OfActor (G t k) (operation_of (states t) k)

  same_actor : (t k : ℕ) (m : Option ℕ) → operation_of (states (suc t)) k ≡ after_mark m (operation_of (states t) k) → At t k → At (suc t) k
  same_actor t k m e h =
      subst (λ x. OfActor (G (suc t) k) x) (sym e) (of_later (G t k) (G (suc t) k) (more t k) _ (of_mark (G t k) m (operation_of (states t) k) h))

  each_by : (t : ℕ) (m : Option ℕ) (actor : ℕ) → ((k : ℕ) → At t k) → ((k : ℕ) → (k ≡ actor → ⊥) → operation_of (states (suc t)) k ≡ after_mark m (operation_of (states t) k)) →
      At (suc t) actor → (k : ℕ) → (k ≡ actor) ⊎ (k ≡ actor → ⊥) → At (suc t) k
  each_by t m actor so_far others own k (inl is) = subst (λ q. At (suc t) q) (sym is) own
  each_by t m actor so_far others own k (inr apart) = same_actor t k m (others k apart) (so_far k)

  each_next : (t : ℕ) → t < last → ((k : ℕ) → At t k) → NotedAt (states t) (run.records t) (states (suc t)) (run.records (suc t)) → (k : ℕ) → At (suc t) k
  each_next t h so_far (NotesBegin actor call number o m d e noted) k =
      each_by t None actor so_far
      (λ j apart. ap (λ (s : State). operation_of s j) e ∙ begin_others (states t) actor call (begun_operation (states t) call number) (begin_counts (states t) actor call number d) j apart)
      (of_begun (G (suc t) actor) (states t) call number _ (subst (λ (s : State). (operation_of s actor ≡ None) ⊎ (operation_of s actor ≡ Some (begun_operation (states t) call number))) (sym e)
      (begin_own (states t) actor call (begun_operation (states t) call number)))) k (cases_eq k actor)
  each_next t h so_far (NotesGo actor operation o m d is g e noted) k =
      let own : operation_of (states (suc t)) actor ≡ after_mark (marks_by (states t) (Some operation)) (Some (operation_after (states t) operation)) =
      ap (λ (s : State). operation_of s actor) e ∙ go_own (states t) actor operation is in
      let before : OfActor (G t actor) (Some operation) = subst (λ x. OfActor (G t actor) x) is (so_far actor) in
      let after : OfActor (G (suc t) actor) (Some (operation_after (states t) operation)) =
      line_keeps (states t) operation (λ i x. G t actor operation.id i x) (λ i x. G (suc t) actor operation.id i x) (λ i x given. more t actor operation.id i x given)
      operation.line (λ i x main on gives. now t h actor operation o m is noted i x main on gives) before in
      each_by t (marks_by (states t) (Some operation)) actor so_far
      (λ j apart. ap (λ (s : State). operation_of s j) e ∙ go_others (states t) actor operation (actor_counts (states t) actor operation is) j apart)
      (subst (λ x. OfActor (G (suc t) actor) x) (sym own) (of_mark (G (suc t) actor) (marks_by (states t) (Some operation)) (Some (operation_after (states t) operation)) after))
      k (cases_eq k actor)
  each_next t h so_far (NotesEnd actor operation answer o m is a e noted) k =
      each_by t None actor so_far
      (λ j apart. ap (λ (s : State). operation_of s j) e ∙ end_others (states t) actor operation answer (actor_counts (states t) actor operation is) j apart)
      (subst (λ x. OfActor (G (suc t) actor) x) (sym (ap (λ (s : State). operation_of s actor) e ∙ end_own (states t) actor operation answer)) tt) k (cases_eq k actor)
  each_next t h so_far (NotesGivingUp actor operation answer o m is a e noted) k =
      each_by t None actor so_far
      (λ j apart. ap (λ (s : State). operation_of s j) e ∙ give_up_others (states t) actor operation answer (actor_counts (states t) actor operation is) j apart)
      (subst (λ x. OfActor (G (suc t) actor) x) (sym (ap (λ (s : State). operation_of s actor) e ∙ give_up_own (states t) actor operation answer is)) tt) k (cases_eq k actor)
  each_next t h so_far (NotesSweep o m e noted) k = same_actor t k None (ap (λ (s : State). operation_of s k) e) (so_far k)

  -- then it is so of all that the lines of running operations remember
  pub each_remembers : (t : ℕ) → t ≤ last → (k : ℕ) → At t k
  each_remembers t h =
      from_time (λ v. (k : ℕ) → At v k) zero last (λ k. subst (λ x. OfActor (G zero k) x) (sym (idle_at_first limits run.limits_ok states run.first k)) tt)
      (λ v b within so_far k. each_next v within so_far (noted_at (run.turn v within) (run.recorded v within)) k) t (omega arith) h
