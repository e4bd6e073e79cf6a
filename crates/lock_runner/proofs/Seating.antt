-- What a seat keeps after one hold of the gate.
use Rattle.std.specs.Prelude.{◌≡◌, ℕ, ◌+◌, ◌<◌, ◌≤◌, ◌^◌, List, Option, Ok}
use Rattle.std.proofs.Common.{sym, ap, subst, ◌∙◌, arith}
use Rattle.lock_runner.specs.Vocabulary.{Step, Outcome, bounded, next}
use Rattle.lock_runner.specs.Beneath.machine_model.specs.declared.steps.Step.TheVariants as step
use Rattle.lock_runner.specs.Beneath.proof_runs.specs.Machines.{Taken, past_of, state_of, with_step, fresh}
use Rattle.lock_runner.specs.Beneath.proof_runs.proofs.Sweeping.{nearer}
use Rattle.lock_runner.specs.declared.accounts.Answer.{Answer}
use Rattle.lock_runner.specs.declared.accounts.Running.{Running}
use Rattle.lock_runner.specs.declared.asks.Work.{Work}
use Rattle.lock_runner.specs.ActorHistory.Answers.{AreAnswersOf, RunsJust}
use Rattle.lock_runner.specs.ActorHistory.Laws.{IsStepOf, IsMadeBy}
use Rattle.lock_runner.proofs.ActorHistory.Steps.{others_leave_the_account, own_steps_make_the_account}
use Rattle.lock_runner.proofs.ActorHistory.Told.{answers_are_those_of_the_history}
use Rattle.lock_runner.proofs.ActorHistory.Runs.{runs_just}
use Rattle.lock_runner.specs.Asks.{Told, Pass, step_of, swept_by}
use Rattle.lock_runner.specs.Boards.{account_in}
use Rattle.lock_runner.specs.Seats.{seen_in, IsSeated}
use Rattle.lock_runner.proofs.Boards.{same_account}
use Rattle.lock_runner.proofs.Growing.{steps_grow, one_step}
use Rattle.lock_runner.proofs.Holds.{Held}

-- its answers are those of the history that it saw last
pub seated_answers : (me : Pass) (answers : List Answer) (running : Option Running) (sweeps : ℕ) → IsSeated me answers running sweeps →
    AreAnswersOf me.number (past_of (seen_in me)).events answers
seated_answers me answers running sweeps seated =
    subst (AreAnswersOf me.number (past_of (seen_in me)).events) (ap (λ a. a.answers) seated.told)
    (answers_are_those_of_the_history (bounded (seen_in me).limits) (seen_in me).steps me.number)

-- what it runs is all that its actor runs there
pub seated_runs : (me : Pass) (answers : List Answer) (running : Option Running) (sweeps : ℕ) → IsSeated me answers running sweeps →
    RunsJust me.number (past_of (seen_in me)).events running
seated_runs me answers running sweeps seated =
    subst (RunsJust me.number (past_of (seen_in me)).events) (ap (λ a. a.running) seated.told)
    (runs_just (bounded (seen_in me).limits) (seen_in me).steps me.number)

-- what the seat keeps, where the machine tells this of its actor and so many steps of the sweep were counted
module _ (me after : Pass) (answers : List Answer) (running : Option Running) (sweeps : ℕ) (seated : IsSeated me answers running sweeps)
    (result : Told) (asked : Work) (heard : ℕ) (h : Held me asked heard result after) where
  abbrev now : Taken
  now = seen_in after

  abbrev s : Step
  s = step_of me.number asked

  sits : (limits : now.limits ≡ h.board.limits) (told : List Answer) (runs : Option Running) (count : ℕ) → account_in me.number now ≡ record { answers = told; running = runs } →
      count ≡ sweeps + swept_by result asked → count ≤ (state_of now).steps → IsSeated after told runs count
  sits limits told runs count account counted bounded =
      let sizes : now.limits ≡ (seen_in me).limits = limits ∙ h.followed.limits in
      record {
        first = ap (λ o. o.machine) h.first ∙ seated.first ∙ ap fresh (sym sizes);
        counted = counted ∙ ap (λ n. n + swept_by result asked) seated.counted ∙ sym h.counted;
        low = omega (arith, seated.low, h.number);
        high = omega (arith, seated.high, h.number, ap (λ l. l.actors) sizes);
        told = ap (λ n. account_in n now) h.number ∙ account;
        bounded = bounded;
      }

  -- what the machine that was found tells
  found : account_in me.number h.board ≡ record { answers = answers; running = running }
  found = same_account me.number (seen_in me) h.board h.followed ∙ seated.told

  enough : sweeps ≤ (state_of h.board).steps
  enough = omega (arith, seated.bounded, steps_grow me.number (seen_in me) h.board h.followed)

  -- the machine was left as it was found
  pub seated_still : now ≡ h.board → swept_by result asked ≡ 0 → IsSeated after answers running sweeps
  seated_still same none =
      sits (ap (λ b. b.limits) same) answers running sweeps (ap (λ b. account_in me.number b) same ∙ found)
      (omega (arith, none)) (subst (λ b. sweeps ≤ (state_of b).steps) (sym same) enough)

  -- a step was taken that isn't the sweep's
  pub seated_step : (o : Outcome) → now ≡ with_step h.board s → swept_by result asked ≡ 0 → next (state_of h.board) s ≡ Ok (o, state_of now) →
      (told : List Answer) (runs : Option Running) → account_in me.number now ≡ record { answers = told; running = runs } → IsSeated after told runs sweeps
  seated_step o with_it none taken told runs account =
      sits (ap (λ b. b.limits) with_it) told runs sweeps account (omega (arith, none)) (omega (arith, enough, one_step h.board now s o taken))

  -- one of the sweep was taken
  pub seated_sweep : (o : Outcome) → s ≡ step.Sweep → now ≡ with_step h.board s → swept_by result asked ≡ 1 → next (state_of h.board) s ≡ Ok (o, state_of now) →
      IsSeated after answers running (sweeps + 1) × (sweeps + 1 < 2 ^ 64)
  seated_sweep o is with_it one taken =
      let near = nearer h.board now (o, (subst (λ x. now ≡ with_step h.board x) is with_it, subst (λ x. next (state_of h.board) x ≡ Ok (o, state_of now)) is taken)) in
      let not_own : IsStepOf me.number s → ⊥ = subst (λ x. IsStepOf me.number x → ⊥) (sym is) (λ own. own) in (
        sits (ap (λ b. b.limits) with_it) answers running (sweeps + 1)
            (ap (λ m. account_in me.number m) with_it ∙ others_leave_the_account (bounded h.board.limits) h.board.steps s o (state_of now) taken me.number not_own ∙ found)
            (omega (arith, one)) (omega (arith, enough, near.1)),
        omega (arith, enough, near.0),
      )

  -- what the actor's own step makes of its account
  pub own_step : (o : Outcome) → IsStepOf me.number s → now ≡ with_step h.board s → next (state_of h.board) s ≡ Ok (o, state_of now) →
      IsMadeBy (past_of h.board).events me.number (record { answers = answers; running = running }) s o (account_in me.number now)
  own_step o own with_it taken =
      subst (λ a. IsMadeBy (past_of h.board).events me.number a s o (account_in me.number now)) found
      (subst (λ m. IsMadeBy (past_of h.board).events me.number (account_in me.number h.board) s o (account_in me.number m)) (sym with_it)
      (own_steps_make_the_account (bounded h.board.limits) h.board.steps s o (state_of now) taken me.number own))
