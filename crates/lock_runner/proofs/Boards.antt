-- Boards that go on.
use Rattle.std.specs.Prelude.{◌≡◌, ◌⊎◌, ℕ, ◌+◌, List, [], ◌∷◌, ◌++◌, All, Ok, Err, count_by, cond}
use Rattle.std.proofs.Common.{refl, sym, ap, ◌∙◌, inl, inr, append_assoc, append-nil, arith}
use Rattle.std.proofs.lemmas.List.Sums.{sum_by-append}
use Rattle.std.proofs.lemmas.List.Elements.{All-nil, All-cons, All-head, All-tail, All-append}
use Rattle.lock_runner.specs.Vocabulary.{Bounds, Step, bounded, Answer, next, run, Record, record_of}
use Rattle.lock_runner.specs.Beneath.machine_model.specs.declared.steps.Step.TheVariants as step
use Rattle.lock_runner.specs.Beneath.proof_runs.specs.Machines.{Taken, with_step}
use Rattle.lock_runner.specs.ActorHistory.{account_of}
use Rattle.lock_runner.specs.ActorHistory.Laws.{IsStepOf}
use Rattle.lock_runner.specs.Boards.{account_in, is_sweep, sweeps_in, GoesOn, GoesOnWithout, HasFollowed}
use Rattle.lock_runner.proofs.ActorHistory.Steps.{denied_push, others_leave_the_account}

-- ---- one step more at most

-- the step is one of this actor's operations, or of the sweep
abbrev pub IsDoneBy : ℕ → Step → Type 0
IsDoneBy actor (step.Begin other call number) = other ≡ actor
IsDoneBy actor (step.Go other) = other ≡ actor
IsDoneBy actor (step.GiveUp other) = other ≡ actor
IsDoneBy actor step.Sweep = Unit {0}

-- one such step stands behind the others, or none
abbrev pub AddsOneAtMost : ℕ → List Step → List Step → Type 0
AddsOneAtMost actor steps more = (more ≡ steps) ⊎ ((s : Step) × IsDoneBy actor s × (more ≡ steps ++ s ∷ []))

-- the one board has become the other, by one step of this actor's hand at most
pub record HasWorked (actor : ℕ) (board now : Taken) : Type 0 where
  pub limits : now.limits ≡ board.limits
  pub steps : AddsOneAtMost actor board.steps now.steps

-- ---- lists that go on

pub goes_on_same : (steps : List Step) → GoesOn steps steps
goes_on_same steps = ([], sym (append-nil steps))

pub goes_on_more : (a b c : List Step) → GoesOn a b → GoesOn b c → GoesOn a c
goes_on_more a b c ab bc = (ab.0 ++ bc.0, bc.1 ∙ ap (λ xs. xs ++ bc.0) ab.1 ∙ append_assoc a ab.0 bc.0)

pub goes_on_without : (actor : ℕ) (a b : List Step) → GoesOnWithout actor a b → GoesOn a b
goes_on_without actor a b more = (more.0, more.1)

pub goes_on_by_one : (actor : ℕ) (a b : List Step) → AddsOneAtMost actor a b → GoesOn a b
goes_on_by_one actor a b (inl same) = ([], same ∙ sym (append-nil a))
goes_on_by_one actor a b (inr (s, own, more)) = (s ∷ [], more)

-- ---- boards that go on

pub has_followed_same : (actor : ℕ) (board : Taken) → HasFollowed actor board board
has_followed_same actor board =
    record { limits = refl; steps = ([], sym (append-nil board.steps), All-nil (λ s. ¬ IsStepOf actor s)) }

pub has_followed_more : (actor : ℕ) (a b c : Taken) → HasFollowed actor a b → HasFollowed actor b c → HasFollowed actor a c
has_followed_more actor a b c ab bc =
    let Not : Step → Type 0 = λ x. ¬ IsStepOf actor x in
    record {
      limits = bc.limits ∙ ab.limits;
      steps = (
        ab.steps.0 ++ bc.steps.0,
        bc.steps.1 ∙ ap (λ xs. xs ++ bc.steps.0) ab.steps.1 ∙ append_assoc a.steps ab.steps.0 bc.steps.0,
        All-append Not ab.steps.0 bc.steps.0 ab.steps.2 bc.steps.2,
      );
    }

pub has_worked_same : (actor : ℕ) (board : Taken) → HasWorked actor board board
has_worked_same actor board = record { limits = refl; steps = inl refl }

-- what one actor or the sweep does isn't another actor's step
not_anothers : (actor other : ℕ) (s : Step) → IsDoneBy actor s → (other ≡ actor → ⊥) → IsStepOf other s → ⊥
not_anothers actor other (step.Begin owner call number) own apart is = apart (sym is ∙ own)
not_anothers actor other (step.Go owner) own apart is = apart (sym is ∙ own)
not_anothers actor other (step.GiveUp owner) own apart is = apart (sym is ∙ own)
not_anothers actor other step.Sweep own apart is = is

followed_more : (actor other : ℕ) (a b c : List Step) → (other ≡ actor → ⊥) → GoesOnWithout other a b → AddsOneAtMost actor b c → GoesOnWithout other a c
followed_more actor other a b c apart followed (inl same) = (followed.0, same ∙ followed.1, followed.2)
followed_more actor other a b c apart followed (inr (s, own, more)) =
    let Not : Step → Type 0 = λ x. ¬ IsStepOf other x in
    let last : All Not (s ∷ []) = All-cons Not s [] (not_anothers actor other s own apart) (All-nil Not) in
    (followed.0 ++ s ∷ [], more ∙ ap (λ xs. xs ++ s ∷ []) followed.1 ∙ append_assoc a followed.0 (s ∷ []), All-append Not followed.0 (s ∷ []) followed.2 last)

-- what another actor knows still stands after this one's work
pub still_followed : (actor other : ℕ) (seen board now : Taken) → (other ≡ actor → ⊥) → HasFollowed other seen board → HasWorked actor board now → HasFollowed other seen now
still_followed actor other seen board now apart followed worked = record {
  limits = worked.limits ∙ followed.limits;
  steps = followed_more actor other seen.steps board.steps now.steps apart followed.steps worked.steps;
}

-- ---- what the history tells of the actor

one_leaves : (limits : Bounds) (steps : List Step) (actor : ℕ) (s : Step) (answer : Answer) → next (run limits steps) s ≡ answer → ¬ IsStepOf actor s →
    account_of actor (record_of limits (steps ++ s ∷ [])).events ≡ account_of actor (record_of limits steps).events
one_leaves limits steps actor s (Ok done) taken other = others_leave_the_account limits steps s done.0 done.1 taken actor other
one_leaves limits steps actor s (Err refusal) denied other = ap (λ (r : Record). account_of actor r.events) (denied_push limits steps s refusal denied)

all_leave : (limits : Bounds) (steps : List Step) (actor : ℕ) (rest : List Step) → All (λ s. ¬ IsStepOf actor s) rest →
    account_of actor (record_of limits (steps ++ rest)).events ≡ account_of actor (record_of limits steps).events
all_leave limits steps actor [] others = ap (λ xs. account_of actor (record_of limits xs).events) (append-nil steps)
all_leave limits steps actor (s ∷ rest) others =
    let Not : Step → Type 0 = λ x. ¬ IsStepOf actor x in
    ap (λ xs. account_of actor (record_of limits xs).events) (sym (append_assoc steps (s ∷ []) rest))
    ∙ all_leave limits (steps ++ s ∷ []) actor rest (All-tail Not s rest others)
    ∙ one_leaves limits steps actor s (next (run limits steps) s) refl (All-head Not s rest others)

-- the steps of others leave it
pub same_account : (actor : ℕ) (seen board : Taken) → HasFollowed actor seen board → account_in actor board ≡ account_in actor seen
same_account actor seen board followed =
    ap (λ l. account_of actor (record_of (bounded l) board.steps).events) followed.limits
    ∙ ap (λ xs. account_of actor (record_of (bounded seen.limits) xs).events) followed.steps.1
    ∙ all_leave (bounded seen.limits) seen.steps actor followed.steps.0 followed.steps.2

-- ---- steps of the sweep

sweeps_append : (xs ys : List Step) → count_by is_sweep (xs ++ ys) ≡ count_by is_sweep xs + count_by is_sweep ys
sweeps_append xs ys = sum_by-append (λ s. cond (is_sweep s) 1 0) xs ys

count_one : (s : Step) → count_by is_sweep (s ∷ []) ≡ cond (is_sweep s) 1 0
count_one s = grind arith

pub sweeps_push : (board now : Taken) (s : Step) → now ≡ with_step board s → sweeps_in now ≡ sweeps_in board + cond (is_sweep s) 1 0
sweeps_push board now s with_it = ap sweeps_in with_it ∙ sweeps_append board.steps (s ∷ []) ∙ ap (λ n. sweeps_in board + n) (count_one s)
