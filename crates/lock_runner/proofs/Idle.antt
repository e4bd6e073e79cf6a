-- Where a step of an actor's operation is denied since it runs none, and a begin since it runs one.
use Rattle.std.specs.Prelude.{◌≡◌, ℕ, ◌≤◌, ◌↔◌, Bool, true, false, not, is_some, MatchOption, [], ◌∷◌, Option, Some, None, Err}
use Rattle.std.proofs.Common.{refl, sym, ap, ◌∙◌, arith}
use Rattle.std.proofs.lemmas.Option.{none-some}
use Rattle.lock_runner.specs.Vocabulary.{Refusal, Call, Operation, Outcome, State, operation_of, action_of, bounded, next, begin_denial, begin_unless, go_unless, go_on, first_reason, is_actor}
use Rattle.lock_runner.specs.Vocabulary.{is_running, is_spent, settled_after, went}
use Rattle.ctrie_base.specs.declared.refusals.Refusal.TheVariants as refuse
use Rattle.history.proofs.Places.{option_untested}
use Rattle.lock_runner.specs.Beneath.machine_model.specs.declared.steps.Step.TheVariants as step
use Rattle.lock_runner.specs.Beneath.proof_runs.specs.Machines.{Taken, state_of}
use Rattle.lock_runner.specs.declared.accounts.Running.{Running}
use Rattle.lock_runner.proofs.ActorHistory.Turns.{shown}
use Rattle.lock_runner.proofs.ActorHistory.Sound.{told, sound_along}
use Rattle.lock_runner.specs.Boards.{account_in}
use Rattle.lock_runner.specs.Beneath.machine_model.proofs.Actors.{actor_by}
use Rattle.lock_runner.specs.Beneath.machine_model.proofs.Along.{limits_along}
use Rattle.lock_runner.proofs.ActorHistory.Steps.{none_told}

none_shown : (o : Option Operation) → shown o ≡ None → o ≡ None
none_shown None e = refl
none_shown (Some operation) e = absurd (none-some _ (sym e))

-- an account runs nothing exactly where the machine runs nothing of the actor
idle_alike : (actor : ℕ) (board : Taken) → (operation_of (state_of board) actor ≡ None) ↔ ((account_in actor board).running ≡ None)
idle_alike actor board =
    let match = (sound_along (bounded board.limits) board.steps).match actor in (
      (λ none. none_told _ (sym match ∙ ap shown none)),
      (λ none. none_shown _ (match ∙ ap told none)),
    )

ok_err : (state : State) (done : Outcome × State) (refusal : Refusal) → settled_after state done ≡ Err refusal → ⊥
ok_err state done refusal e = grind (arith, e)

-- a step of what runs is taken
not_denied : (state : State) (actor : ℕ) (operation : Operation) (refusal : Refusal) → go_on state actor (Some operation) ≡ Err refusal → ⊥
not_denied state actor operation refusal e = ok_err state (went state actor operation (action_of state operation)) refusal e

going : (state : State) (actor : ℕ) (refusal : Refusal) (o : Option Operation) → is_some o ≡ true → go_on state actor o ≡ Err refusal → ⊥
going state actor refusal None runs e = grind (arith, runs)
going state actor refusal (Some operation) runs e = not_denied state actor operation refusal e

-- where it runs nothing it is idle, else all steps are taken
pub idle_denied : (state : State) (actor : ℕ) (refusal : Refusal) (a r s : Bool) → a ≡ true → is_some (operation_of state actor) ≡ r →
    go_unless state actor (first_reason ((not a, refuse.NoActor) ∷ (not r, refuse.Idle) ∷ (s, refuse.Spent) ∷ [])) ≡ Err refusal →
    (operation_of state actor ≡ None → refusal ≡ refuse.Idle) × ((operation_of state actor ≡ None → ⊥) → refusal ≡ refuse.Spent)
idle_denied state actor refusal true false s own runs e = ((λ none. grind (arith, e)), (λ some. absurd (some (option_untested _ runs))))
idle_denied state actor refusal true true true own runs e = ((λ none. absurd (grind (arith, runs, none))), (λ some. grind (arith, e)))
idle_denied state actor refusal true true false own runs e = absurd (going state actor refusal (operation_of state actor) runs e)
idle_denied state actor refusal false r s own runs e = absurd (grind (arith, own))

by_running : (refusal : Refusal) (r : Option Running) → (r ≡ None → refusal ≡ refuse.Idle) → ((r ≡ None → ⊥) → refusal ≡ refuse.Spent) →
    MatchOption r (refusal ≡ refuse.Idle) (λ operation. refusal ≡ refuse.Spent)
by_running refusal None idle spent = idle refl
by_running refusal (Some r) idle spent = spent (λ none. none-some r (sym none))

-- the same by what the account runs
pub idle_only : (actor : ℕ) (board : Taken) (refusal : Refusal) → 1 ≤ actor → actor ≤ board.limits.actors → next (state_of board) (step.Go actor) ≡ Err refusal →
    MatchOption (account_in actor board).running (refusal ≡ refuse.Idle) (λ operation. refusal ≡ refuse.Spent)
unfolding next
idle_only actor board refusal low high e =
    let within : actor ≤ (state_of board).limits.actors = omega (arith, high, ap (λ l. l.actors) (limits_along (bounded board.limits) board.steps)) in
    let own : is_actor (state_of board) actor ≡ true = actor_by actor (state_of board).limits.actors low within in
    let alike = idle_alike actor board in
    let why = idle_denied (state_of board) actor refusal (is_actor (state_of board) actor) (is_running (state_of board) actor) (is_spent (state_of board)) own refl e in
    by_running refusal (account_in actor board).running (λ none. why.0 (alike.1 none)) (λ some. why.1 (λ none. some (alike.0 none)))

idle_by : (state : State) (actor : ℕ) (a r s : Bool) → a ≡ true → r ≡ false →
    go_unless state actor (first_reason ((not a, refuse.NoActor) ∷ (not r, refuse.Idle) ∷ (s, refuse.Spent) ∷ [])) ≡ Err refuse.Idle
idle_by state actor a r s own none = rw (own, none) refl

-- where the account runs nothing the step is denied as idle
pub idle_is_denied : (actor : ℕ) (board : Taken) → 1 ≤ actor → actor ≤ board.limits.actors → (account_in actor board).running ≡ None → next (state_of board) (step.Go actor) ≡ Err refuse.Idle
unfolding next
idle_is_denied actor board low high none =
    let within : actor ≤ (state_of board).limits.actors = omega (arith, high, ap (λ l. l.actors) (limits_along (bounded board.limits) board.steps)) in
    let own : is_actor (state_of board) actor ≡ true = actor_by actor (state_of board).limits.actors low within in
    idle_by (state_of board) actor (is_actor (state_of board) actor) (is_running (state_of board) actor) (is_spent (state_of board)) own (ap is_some ((idle_alike actor board).1 none))

-- ---- a begin

tested : (o : Option Operation) → (o ≡ None → ⊥) → is_some o ≡ true
tested None some = absurd (some refl)
tested (Some operation) some = refl

busy_denial : (state : State) (actor : ℕ) (call : Call) → is_actor state actor ≡ true → is_running state actor ≡ true → begin_denial state actor call None ≡ Some refuse.ActorBusy
busy_denial state actor call own busy = rw (own, busy) refl

-- where the account runs something a begin is denied as busy
pub busy_is_denied : (actor : ℕ) (board : Taken) (call : Call) (operation : Running) → 1 ≤ actor → actor ≤ board.limits.actors →
    (account_in actor board).running ≡ Some operation → next (state_of board) (step.Begin actor call None) ≡ Err refuse.ActorBusy
unfolding next
busy_is_denied actor board call operation low high ran =
    let within : actor ≤ (state_of board).limits.actors = omega (arith, high, ap (λ l. l.actors) (limits_along (bounded board.limits) board.steps)) in
    let own : is_actor (state_of board) actor ≡ true = actor_by actor (state_of board).limits.actors low within in
    let busy : is_running (state_of board) actor ≡ true = tested _ (λ none. none-some operation (sym ((idle_alike actor board).0 none) ∙ ran)) in
    ap (λ denial. begin_unless (state_of board) actor call None denial) (busy_denial (state_of board) actor call own busy)
