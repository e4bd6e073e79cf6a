-- Laws of the machine's histories.
use Rattle.std.specs.Prelude.{◌≡◌, ℕ, List, ◌∷◌, [], ◌++◌, length, Some, None, Ok}
use Rattle.lock_runner.specs.Vocabulary.{Operation, Event, Bounds, Step, Outcome, State, operation_of, next, run, record_of}
use Rattle.lock_runner.specs.Beneath.machine_model.specs.declared.steps.Step.TheVariants as step
use Rattle.lock_runner.specs.Beneath.machine_model.specs.declared.steps.Outcome.TheVariants as outcome
use Rattle.lock_runner.specs.declared.accounts.Running.{Running}
use Rattle.lock_runner.specs.ActorHistory.{Account, account_of, begun_at, answered_at}
use Rattle.lock_runner.specs.ActorHistory.Answers.{AreAnswersOf}

-- the step is one of this actor's operations
abbrev pub IsStepOf : ℕ → Step → Type 0
IsStepOf actor (step.Begin other call number) = other ≡ actor
IsStepOf actor (step.Go other) = other ≡ actor
IsStepOf actor (step.GiveUp other) = other ≡ actor
IsStepOf actor step.Sweep = ⊥

-- operations of two actors have two ids
abbrev pub RunningIdsDiffer : Type 0
RunningIdsDiffer =
    (limits : Bounds) (steps : List Step) (i j : ℕ) (a b : Operation) → operation_of (run limits steps) i ≡ Some a →
    operation_of (run limits steps) j ≡ Some b → a.id ≡ b.id → i ≡ j

-- a step that isn't the actor's leaves the actor's account
abbrev pub OthersLeaveTheAccount : Type 0
OthersLeaveTheAccount =
    (limits : Bounds) (steps : List Step) (s : Step) (o : Outcome) (after : State) → next (run limits steps) s ≡ Ok (o, after) →
    (actor : ℕ) → ¬ IsStepOf actor s → account_of actor (record_of limits (steps ++ s ∷ [])).events ≡ account_of actor (record_of limits steps).events

-- What the actor's own step makes of its account: a begin brings an operation in, whose place is the history's next one;
-- an end answers the operation that the account has, at the next place; other steps leave the account.
abbrev pub IsMadeBy : List Event → ℕ → Account → Step → Outcome → Account → Type 0
IsMadeBy history actor before (step.Begin owner call number) (outcome.Began id) after =
    (before.running ≡ None) × (after ≡ record before { running = Some (begun_at (length history) id call) })
IsMadeBy history actor before (step.Go owner) (outcome.Ended id answer) after =
    (operation : Running) × (before.running ≡ Some operation) × (operation.id ≡ id)
    × (after ≡ record { answers = before.answers ++ answered_at operation (length history) answer ∷ []; running = None })
IsMadeBy history actor before (step.Go owner) (outcome.Went kind) after = (after ≡ before) × ¬ (before.running ≡ None)
IsMadeBy history actor before (step.GiveUp owner) (outcome.Went kind) after = (after ≡ before) × ¬ (before.running ≡ None)
IsMadeBy history actor before s o after = ⊥

abbrev pub OwnStepsMakeTheAccount : Type 0
OwnStepsMakeTheAccount =
    (limits : Bounds) (steps : List Step) (s : Step) (o : Outcome) (after : State) → next (run limits steps) s ≡ Ok (o, after) →
    (actor : ℕ) → IsStepOf actor s →
    IsMadeBy (record_of limits steps).events actor (account_of actor (record_of limits steps).events) s o (account_of actor (record_of limits (steps ++ s ∷ [])).events)

-- the account's answers are the actor's ended operations
abbrev pub AnswersAreThoseOfTheHistory : Type 0
AnswersAreThoseOfTheHistory =
    (limits : Bounds) (steps : List Step) (actor : ℕ) → AreAnswersOf actor (record_of limits steps).events (account_of actor (record_of limits steps).events).answers
