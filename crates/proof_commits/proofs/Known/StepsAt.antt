-- The step of a run at a time, by what it is, and what it does to the steps of commits and to actors.
use Rattle.std.proofs.Common.{◌≡◌, ℕ, zero, suc, ◌-◌, ◌<◌, ◌⊎◌, Bool, true, false, cond, ◌==◌, List, ◌∷◌, ◌++◌, set, get_or, Option, Some, None, option_map, find, inl, inr, refl}
use Rattle.std.proofs.Common.{sym, ◌∙◌, ap, subst, ne_eqb, arith, []}
use Rattle.std.proofs.Math.ListN.{get_or-map}
use Rattle.std.specs.Option.{option_or}
use Rattle.std.proofs.lemmas.Bool.{eq-eqb, true≢false}
use Rattle.std.proofs.lemmas.List.{get_or-set_same}
use Rattle.std.proofs.lemmas.List.Folds.{find-append}
use Rattle.std.proofs.lemmas.Option.{none-some}
use Rattle.proof_commits.specs.Vocabulary.{Call, Reply, Ref, Commit, Operation, Outcome, Step, State, operation_of, action_of, gone, ended, operation_after, marked, settled, begin_denial, go_denial}
use Rattle.proof_commits.specs.Vocabulary.{with_begin, swept, Record, commits_after, noted, noted_end, noted_progress, begin_told, entrant_of, progress_of, told_in, Begins, Ends, Sweeps, GivesUp}
use Rattle.proof_commits.specs.Vocabulary.{Moves, GoesOn, begun_operation, turns, Turn, noted_turn, given_up, gave_up, with_operation}
use Rattle.proof_commits.specs.Beneath.machine_model.specs.declared.actions.Action.TheVariants as act
use Rattle.proof_commits.specs.Beneath.machine_model.specs.declared.steps.Step.TheVariants as step
use Rattle.proof_commits.specs.Beneath.machine_model.specs.Moves.{Goes}
use Rattle.proof_commits.specs.Beneath.machine_model.proofs.Notes.{noted_ending, noted_going}
use Rattle.proof_commits.specs.Beneath.machine_model.proofs.Found.{found_elsewhere, found_here, found_within}
use Rattle.proof_commits.specs.Beneath.machine_model.proofs.Actors.{after_marks, marks_by, gone_actors, begin_actors}
use Rattle.proof_commits.specs.Stages.{stage_of_actor}
use Rattle.proof_commits.specs.Words.{commit_of}

-- ---- which step it is

pub data StepAt (before after : State) : Type 0 where
  IsBegin : (actor : ℕ) (call : Call) (number : Option ℕ) (o : Outcome) → Moves before (step.Begin actor call number) o after → begin_denial before actor call number ≡ None →
      after ≡ settled before (with_begin before actor call (begun_operation before call number)) → StepAt before after
  IsGo : (actor : ℕ) (operation : Operation) (o : Outcome) → Moves before (step.Go actor) o after → operation_of before actor ≡ Some operation →
      GoesOn (action_of before operation) → after ≡ settled before (gone before actor operation) → StepAt before after
  IsEnd : (actor : ℕ) (operation : Operation) (answer : Reply) (o : Outcome) → Moves before (step.Go actor) o after → operation_of before actor ≡ Some operation →
      action_of before operation ≡ act.End answer → after ≡ settled before (ended before actor) → StepAt before after
  IsSweep : (o : Outcome) → Moves before step.Sweep o after → after ≡ settled before (swept before).1 → StepAt before after
  IsGivingUp : (actor : ℕ) (operation : Operation) (answer : Reply) (o : Outcome) → Moves before (step.GiveUp actor) o after → operation_of before actor ≡ Some operation →
      given_up operation.call operation.line ≡ Some answer → after ≡ settled before (with_operation before actor (Some (gave_up operation answer))) → StepAt before after

pub of_move : (before : State) (s : Step) (o : Outcome) (after : State) → Moves before s o after → StepAt before after
of_move before s o after (Begins {actor} {call} {number} d) = IsBegin actor call number _ (Begins d) d refl
of_move before s o after (Goes {actor} {operation} {action} d is a g) = IsGo actor operation _ (Goes d is a g) is (subst GoesOn (sym a) g) refl
of_move before s o after (Ends {actor} {operation} {answer} d is a) = IsEnd actor operation answer _ (Ends d is a) is a refl
of_move before s o after (Sweeps spent) = IsSweep _ (Sweeps spent) refl
of_move before s o after (GivesUp {actor} {operation} {answer} d is a) = IsGivingUp actor operation answer _ (GivesUp d is a) is a refl

pub step_at : (before after : State) → Turn before after → StepAt before after
step_at before after (turns s o m) = of_move before s o after m

-- the same, with what is recorded
pub data NotedAt (before : State) (past : Record) (after : State) (now : Record) : Type 0 where
  NotesBegin : (actor : ℕ) (call : Call) (number : Option ℕ) (o : Outcome) → Moves before (step.Begin actor call number) o after → begin_denial before actor call number ≡ None →
      after ≡ settled before (with_begin before actor call (begun_operation before call number)) →
      now ≡ noted past before.steps (begin_told actor call (begun_operation before call number)) → NotedAt before past after now
  NotesGo : (actor : ℕ) (operation : Operation) (o : Outcome) → Moves before (step.Go actor) o after → go_denial before actor ≡ None → operation_of before actor ≡ Some operation →
      GoesOn (action_of before operation) → after ≡ settled before (gone before actor operation) →
      now ≡ noted_progress past before.steps actor (progress_of before operation) → NotedAt before past after now
  NotesEnd : (actor : ℕ) (operation : Operation) (answer : Reply) (o : Outcome) → Moves before (step.Go actor) o after → operation_of before actor ≡ Some operation →
      action_of before operation ≡ act.End answer → after ≡ settled before (ended before actor) → now ≡ noted_end past actor (entrant_of operation) answer →
      NotedAt before past after now
  NotesSweep : (o : Outcome) → Moves before step.Sweep o after → after ≡ settled before (swept before).1 → now ≡ past → NotedAt before past after now
  NotesGivingUp : (actor : ℕ) (operation : Operation) (answer : Reply) (o : Outcome) → Moves before (step.GiveUp actor) o after → operation_of before actor ≡ Some operation →
      given_up operation.call operation.line ≡ Some answer → after ≡ settled before (with_operation before actor (Some (gave_up operation answer))) → now ≡ past →
      NotedAt before past after now

notes_by : (before : State) (past : Record) (s : Step) (o : Outcome) (after : State) (now : Record) → Moves before s o after → now ≡ noted past before.steps (told_in before s) →
    NotedAt before past after now
notes_by before past s o after now (Begins {actor} {call} {number} d) e = NotesBegin actor call number _ (Begins d) d refl e
notes_by before past s o after now (Goes {actor} {operation} {action} d is a g) e =
    NotesGo actor operation _ (Goes d is a g) d is (subst GoesOn (sym a) g) refl (e ∙ noted_going before past actor operation action is a g)
notes_by before past s o after now (Ends {actor} {operation} {answer} d is a) e =
    NotesEnd actor operation answer _ (Ends d is a) is a refl (e ∙ noted_ending before past actor operation answer is a)
notes_by before past s o after now (Sweeps spent) e = NotesSweep _ (Sweeps spent) refl e
notes_by before past s o after now (GivesUp {actor} {operation} {answer} d is a) e = NotesGivingUp actor operation answer _ (GivesUp d is a) is a refl e

pub noted_at : {before after : State} {past now : Record} (turn : Turn before after) → now ≡ noted_turn turn past → NotedAt before past after now
noted_at {before} {after} {past} {now} (turns s o m) e = notes_by before past s o after now m e

-- ---- the steps of commits

-- is the commit one of this node
abbrev is_of : Ref → Commit → Bool
is_of m c = c.main == m

-- by what was found before
here_by : (m : Ref) (t : ℕ) (found : Option Commit) → option_map (λ (c : Commit). c.step) found ≡ None → (b : Bool) → b ≡ true →
    option_map (λ (c : Commit). c.step) (option_or found (cond b (Some (record { main = m; step = t })) None)) ≡ Some t
here_by m t None e true is = refl
here_by m t None e false is = absurd (true≢false (sym is))
here_by m t (Some c) e b is = absurd (none-some c.step (sym e))

elsewhere_by : (m : Ref) (t : ℕ) (found : Option Commit) (b : Bool) → b ≡ false →
    option_map (λ (c : Commit). c.step) (option_or found (cond b (Some (record { main = m; step = t })) None)) ≡ option_map (λ (c : Commit). c.step) found
elsewhere_by m t None false is = refl
elsewhere_by m t None true is = absurd (true≢false is)
elsewhere_by m t (Some c) b is = refl

pushed_here : (xs : List Commit) (m : Ref) (t : ℕ) → option_map (λ (c : Commit). c.step) (find (is_of m) xs) ≡ None →
    option_map (λ (c : Commit). c.step) (find (is_of m) (xs ++ record { main = m; step = t } ∷ [])) ≡ Some t
pushed_here xs m t e = rw find-append (here_by m t (find (is_of m) xs) e (m == m) (eq-eqb m m refl))

pushed_elsewhere : (xs : List Commit) (m q : Ref) (t : ℕ) → (q ≡ m → ⊥) →
    option_map (λ (c : Commit). c.step) (find (is_of q) (xs ++ record { main = m; step = t } ∷ [])) ≡ option_map (λ (c : Commit). c.step) (find (is_of q) xs)
pushed_elsewhere xs m q t apart = rw find-append (elsewhere_by m t (find (is_of q) xs) (m == q) (ne_eqb m q (λ e. apart (sym e))))

-- what a step that commits this node leaves
pub commit_here : (past now : Record) (step : ℕ) (m : Ref) → now.commits ≡ commits_after past step (Some m) → commit_of past m ≡ None → commit_of now m ≡ Some step
commit_here past now step m e n = ap (λ xs. option_map (λ (c : Commit). c.step) (find (is_of m) xs)) e ∙ pushed_here past.commits m step n

pub commit_elsewhere : (past now : Record) (step : ℕ) (m q : Ref) → now.commits ≡ commits_after past step (Some m) → (q ≡ m → ⊥) → commit_of now q ≡ commit_of past q
commit_elsewhere past now step m q e apart = ap (λ xs. option_map (λ (c : Commit). c.step) (find (is_of q) xs)) e ∙ pushed_elsewhere past.commits m q step apart

pub commit_kept : (past now : Record) (q : Ref) → now.commits ≡ past.commits → commit_of now q ≡ commit_of past q
commit_kept past now q e = ap (λ xs. option_map (λ (c : Commit). c.step) (find (is_of q) xs)) e

-- ---- actors

-- a mark doesn't change what an actor is about
marked_stage : (id : ℕ) (x : Option Operation) → stage_of_actor (marked id x) ≡ stage_of_actor x
marked_stage id None = refl
marked_stage id (Some operation) = by_mark (operation.id == id)
  where
    by_mark : (b : Bool) → stage_of_actor (Some (cond b (record operation { is_marked = true }) operation)) ≡ stage_of_actor (Some operation)
    by_mark true = refl
    by_mark false = refl

-- what an actor runs once some are marked
abbrev pub after_mark : Option ℕ → Option Operation → Option Operation
after_mark None x = x
after_mark (Some id) x = marked id x

marks_one : (m : Option ℕ) (xs : List (Option Operation)) (k : ℕ) → get_or (after_marks m xs) k None ≡ after_mark m (get_or xs k None)
marks_one None xs k = refl
marks_one (Some id) xs k = get_or-map (marked id) xs k None

pub mark_stage : (m : Option ℕ) (x : Option Operation) → stage_of_actor (after_mark m x) ≡ stage_of_actor x
mark_stage None x = refl
mark_stage (Some id) x = marked_stage id x

-- where an actor's place in the list is left it runs the same, but for a mark
same_place : (before after : State) (m : Option ℕ) (actor j : ℕ) (put : Option Operation) → 0 < actor → after.actors ≡ after_marks m (set before.actors (actor - 1) put) →
    (j ≡ actor → ⊥) → operation_of after j ≡ after_mark m (operation_of before j)
same_place before after None actor zero put pos e apart = refl
same_place before after (Some id) actor zero put pos e apart = refl
same_place before after m actor (suc k) put pos e apart =
    let elsewhere : get_or (set before.actors (actor - 1) put) k None ≡ get_or before.actors k None =
    found_elsewhere before.actors (actor - 1) k put (λ same. apart (omega arith)) in
    ap (λ xs. get_or xs k None) e ∙ marks_one m (set before.actors (actor - 1) put) k ∙ ap (after_mark m) elsewhere

pub go_others : (before : State) (actor : ℕ) (operation : Operation) → 0 < actor → (j : ℕ) → (j ≡ actor → ⊥) →
    operation_of (settled before (gone before actor operation)) j ≡ after_mark (marks_by before (Some operation)) (operation_of before j)
go_others before actor operation pos j apart =
    same_place before (settled before (gone before actor operation)) (marks_by before (Some operation)) actor j (Some (operation_after before operation)) pos
    (gone_actors before actor operation) apart

pub end_others : (before : State) (actor : ℕ) (operation : Operation) (answer : Reply) → 0 < actor → (j : ℕ) → (j ≡ actor → ⊥) →
    operation_of (settled before (ended before actor)) j ≡ operation_of before j
end_others before actor operation answer pos j apart = same_place before (settled before (ended before actor)) None actor j None pos refl apart

pub begin_others : (before : State) (actor : ℕ) (call : Call) (operation : Operation) → 0 < actor → (j : ℕ) → (j ≡ actor → ⊥) →
    operation_of (settled before (with_begin before actor call operation)) j ≡ operation_of before j
begin_others before actor call operation pos j apart =
    same_place before (settled before (with_begin before actor call operation)) None actor j (Some operation) pos (begin_actors before actor call operation) apart

-- after its step an actor runs what the step makes of its operation, but for a mark
own_place : (before after : State) (m : Option ℕ) (k : ℕ) (was put : Operation) → get_or before.actors k None ≡ Some was →
    after.actors ≡ after_marks m (set before.actors k (Some put)) → get_or after.actors k None ≡ after_mark m (Some put)
own_place before after m k was put found e =
    let here : get_or (set before.actors k (Some put)) k None ≡ Some put = get_or-set_same before.actors k (Some put) None (found_within before.actors k was found) in
    ap (λ xs. get_or xs k None) e ∙ marks_one m (set before.actors k (Some put)) k ∙ ap (after_mark m) here

pub go_own : (before : State) (actor : ℕ) (operation : Operation) → operation_of before actor ≡ Some operation →
    operation_of (settled before (gone before actor operation)) actor ≡ after_mark (marks_by before (Some operation)) (Some (operation_after before operation))
go_own before zero operation found = absurd (none-some operation found)
go_own before (suc k) operation found =
    let at : suc k - 1 ≡ k = omega arith in
    own_place before (settled before (gone before (suc k) operation)) (marks_by before (Some operation)) k operation (operation_after before operation) found
    (gone_actors before (suc k) operation ∙ ap (λ x. after_marks (marks_by before (Some operation)) (set before.actors x (Some (operation_after before operation)))) at)

-- once it has given up it runs the operation so
pub give_up_own : (before : State) (actor : ℕ) (operation : Operation) (answer : Reply) → operation_of before actor ≡ Some operation →
    operation_of (settled before (with_operation before actor (Some (gave_up operation answer)))) actor ≡ Some (gave_up operation answer)
give_up_own before zero operation answer found = absurd (none-some operation found)
give_up_own before (suc k) operation answer found =
    let at : suc k - 1 ≡ k = omega arith in
    own_place before (settled before (with_operation before (suc k) (Some (gave_up operation answer)))) None k operation (gave_up operation answer) found
    (ap (λ x. set before.actors x (Some (gave_up operation answer))) at)

pub give_up_others : (before : State) (actor : ℕ) (operation : Operation) (answer : Reply) → 0 < actor → (j : ℕ) → (j ≡ actor → ⊥) →
    operation_of (settled before (with_operation before actor (Some (gave_up operation answer)))) j ≡ operation_of before j
give_up_others before actor operation answer pos j apart =
    same_place before (settled before (with_operation before actor (Some (gave_up operation answer)))) None actor j (Some (gave_up operation answer)) pos refl apart

-- after its end it runs nothing
nothing_by : (xs : List (Option Operation)) (k : ℕ) (x : Option Operation) → get_or (set xs k None) k None ≡ x → x ≡ None
nothing_by xs k None e = refl
nothing_by xs k (Some found) e = absurd (none-some found (found_here xs k None found e))

pub end_own : (before : State) (actor : ℕ) (operation : Operation) (answer : Reply) → operation_of (settled before (ended before actor)) actor ≡ None
end_own before zero operation answer = refl
end_own before (suc k) operation answer =
    let at : suc k - 1 ≡ k = omega arith in
    ap (λ x. get_or (set before.actors x None) k None) at ∙ nothing_by before.actors k _ refl

-- after a begin it runs what began, if anything
begun_by : (xs : List (Option Operation)) (k : ℕ) (put : Operation) (x : Option Operation) → get_or (set xs k (Some put)) k None ≡ x → (x ≡ None) ⊎ (x ≡ Some put)
begun_by xs k put None e = inl refl
begun_by xs k put (Some found) e = inr (sym (found_here xs k (Some put) found e))

pub begin_own : (before : State) (actor : ℕ) (call : Call) (operation : Operation) →
    let found = operation_of (settled before (with_begin before actor call operation)) actor in (found ≡ None) ⊎ (found ≡ Some operation)
begin_own before zero call operation = inl refl
begin_own before (suc k) call operation =
    let at : suc k - 1 ≡ k = omega arith in
    begun_by before.actors k operation _ (sym (ap (λ xs. get_or xs k None) (begin_actors before (suc k) call operation) ∙ ap (λ x. get_or (set before.actors x (Some operation)) k None) at))

pub actor_counts : (before : State) (actor : ℕ) (operation : Operation) → operation_of before actor ≡ Some operation → 0 < actor
actor_counts before zero operation found = absurd (none-some operation found)
actor_counts before (suc k) operation found = omega arith
