-- An actor whose operation ended runs nothing, and from rest one actor alone takes steps.
use Rattle.std.specs.Prelude.{◌≡◌, ℕ, zero, suc, false, is_some, List, [], ◌∷◌, Option, Some, None, Ok}
use Rattle.std.specs.List.{list_any}
use Rattle.std.proofs.Common.{refl, sym, ap, subst, ◌∙◌, get_or}
use Rattle.std.proofs.lemmas.Bool.{false≢true}
use Rattle.std.proofs.lemmas.Option.{none-some}
use Rattle.proof_commits.specs.Vocabulary.{Reply, Operation, Outcome, Ended, Step, Go, Sweep, GiveUp, ended, settled, is_busy, next, Moves, Begins, Ends, Sweeps, GivesUp, State, operation_of}
use Rattle.proof_commits.specs.Beneath.machine_model.specs.declared.steps.Step.TheVariants.{Begin}
use Rattle.proof_commits.specs.Beneath.machine_model.specs.Moves.{Goes}
use Rattle.proof_commits.specs.Beneath.machine_model.proofs.Actors.{IsOf, is_of, of_others}
use Rattle.proof_commits.specs.Beneath.machine_model.proofs.Moves.{moved}
use Rattle.proof_commits.proofs.Known.StepsAt.{end_own}

-- ---- the end of an operation

idle_by : (state : State) (s : Step) (o : Outcome) (after : State) → Moves state s o after → (actor id : ℕ) (answer : Reply) → s ≡ Go actor → o ≡ Ended id answer →
    operation_of after actor ≡ None
idle_by state s o after (Begins d) actor id answer is told = cc is
idle_by state s o after (Sweeps d) actor id answer is told = cc is
idle_by state s o after (GivesUp d found a) actor id answer is told = cc is
idle_by state s o after (Goes d found a g) actor id answer is told = cc told
idle_by state s o after (Ends {actor = who} {operation} {answer = said} d found a) actor id answer is told =
    let whose : who ≡ actor = cc is in subst (λ k. operation_of (settled state (ended state who)) k ≡ None) whose (end_own state who operation said)

-- its actor runs nothing then
pub idle_behind : (state : State) (actor id : ℕ) (answer : Reply) (after : State) → next state (Go actor) ≡ Ok (Ended id answer, after) → operation_of after actor ≡ None
idle_behind state actor id answer after e = idle_by state (Go actor) _ after (moved state (Go actor) _ after e) actor id answer refl refl

-- ---- at rest

pub none_at : (actors : List (Option Operation)) → list_any is_some actors ≡ false → (k : ℕ) (operation : Operation) → get_or actors k None ≡ Some operation → ⊥
none_at [] rest k operation e = none-some operation e
none_at (Some running ∷ actors) rest k operation e = false≢true (sym rest)
none_at (None ∷ actors) rest zero operation e = none-some operation e
none_at (None ∷ actors) rest (suc k) operation e = none_at actors rest k operation e

all_idle : (actors : List (Option Operation)) → ((k : ℕ) (operation : Operation) → get_or actors k None ≡ Some operation → ⊥) → list_any is_some actors ≡ false
all_idle [] none = refl
all_idle (Some running ∷ actors) none = absurd (none zero running refl)
all_idle (None ∷ actors) none = all_idle actors (λ k operation e. none (suc k) operation e)

-- ---- one actor alone

-- at most this actor runs an operation
abbrev pub OnlyRuns : ℕ → State → Type 0
OnlyRuns actor state = (other : ℕ) (operation : Operation) → operation_of state other ≡ Some operation → other ≡ actor

pub only_at_rest : (state : State) → is_busy state ≡ false → (actor : ℕ) → OnlyRuns actor state
only_at_rest state rest actor zero operation e = absurd (none-some operation e)
only_at_rest state rest actor (suc k) operation e = absurd (none_at state.actors rest k operation e)

pub rest_if_idle : (actor : ℕ) (state : State) → OnlyRuns actor state → operation_of state actor ≡ None → is_busy state ≡ false
rest_if_idle actor state only idle =
    all_idle state.actors (λ k operation e. none-some operation (sym idle ∙ ap (operation_of state) (sym (only (suc k) operation e)) ∙ e))

one_actor : (a b : ℕ) (s : Step) → IsOf a s → IsOf b s → a ≡ b
one_actor a b (Begin actor call number) x y = sym x ∙ y
one_actor a b (Go actor) x y = sym x ∙ y
one_actor a b Sweep x y = absurd x
one_actor a b (GiveUp actor) x y = sym x ∙ y

only_by : (actor : ℕ) (state : State) (s : Step) (o : Outcome) (after : State) → Moves state s o after → IsOf actor s → OnlyRuns actor state → (k : ℕ) → Dec (IsOf (suc k) s) →
    (operation : Operation) → operation_of after (suc k) ≡ Some operation → suc k ≡ actor
only_by actor state s o after m own only k (yes his) operation e = one_actor (suc k) actor s his own
only_by actor state s o after m own only k (no other) operation e = let (was, at, same) = of_others state s o after m k other operation e in only (suc k) was at

-- its steps bring in no other
pub still_only : (actor : ℕ) (state : State) (s : Step) (o : Outcome) (after : State) → next state s ≡ Ok (o, after) → IsOf actor s → OnlyRuns actor state → OnlyRuns actor after
still_only actor state s o after e own only zero operation runs = absurd (none-some operation runs)
still_only actor state s o after e own only (suc k) operation runs = only_by actor state s o after (moved state s o after e) own only k (is_of (suc k) s) operation runs
