-- Boards: the machine that all seats share, as one of them sees it.
use Rattle.std.specs.Prelude.{◌≡◌, ℕ, Bool, true, false, List, ◌++◌, All, count_by}
use Rattle.lock_runner.specs.Vocabulary.{Step}
use Rattle.lock_runner.specs.Beneath.machine_model.specs.declared.steps.Step.TheVariants as step
use Rattle.lock_runner.specs.Beneath.proof_runs.specs.Machines.{Taken, past_of}
use Rattle.lock_runner.specs.ActorHistory.{Account, account_of}
use Rattle.lock_runner.specs.ActorHistory.Laws.{IsStepOf}

-- what the board's history tells of an actor
abbrev pub account_in : ℕ → Taken → Account
account_in actor board = account_of actor (past_of board).events

abbrev pub is_sweep : Step → Bool
is_sweep step.Sweep = true
is_sweep other = false

-- how many of its steps are the sweep's
abbrev pub sweeps_in : Taken → ℕ
sweeps_in board = count_by is_sweep board.steps

-- the one list of steps goes on with more, or with none
abbrev pub GoesOn : List Step → List Step → Type 0
GoesOn steps more = (rest : List Step) × (more ≡ steps ++ rest)

-- it goes on so with none of this actor's operations
abbrev pub GoesOnWithout : ℕ → List Step → List Step → Type 0
GoesOnWithout actor steps more = (rest : List Step) × (more ≡ steps ++ rest) × All (λ s. ¬ IsStepOf actor s) rest

-- the one board has become the other, with no step of this actor's operations
pub record HasFollowed (actor : ℕ) (seen board : Taken) : Type 0 where
  pub limits : board.limits ≡ seen.limits
  pub steps : GoesOnWithout actor seen.steps board.steps
