-- What contracts see of a machine, and what a step does to it.
use Rattle.std.specs.Prelude.{◌≡◌, ℕ, true, List, [], ◌∷◌, ◌++◌, Contains, None, Result, Ok, Err}
use Rattle.proof_runs.specs.Vocabulary.{Refusal, Limits, Step, Go, Outcome, State, bounded, next, denial_of, is_taken_step, run, Record, record_of, FindsNoSlot}
use Rattle.proof_runs.specs.Beneath.ctrie_base.specs.declared.refusals.Refusal.TheVariants.{Memory}

-- a machine: its limits, and the steps that it has taken
pub record Taken : Type 0 where
  pub limits : Limits
  pub steps : List Step

-- a machine that has taken none
abbrev pub fresh : Limits → Taken
fresh limits = record { limits = limits; steps = [] }

-- the state that its steps lead to
abbrev pub state_of : Taken → State
state_of machine = run (bounded machine.limits) machine.steps

-- what is recorded of them
abbrev pub past_of : Taken → Record
past_of machine = record_of (bounded machine.limits) machine.steps

-- the definition takes the step in this state
abbrev pub IsTaken : State → Step → Type 0
IsTaken state step = is_taken_step (next state step) ≡ true

-- the definition takes each of the steps, in the state that those before it lead to
abbrev pub AreTaken : Limits → List Step → Type 0
AreTaken limits steps = (before after : List Step) (step : Step) → steps ≡ before ++ step ∷ after → IsTaken (run (bounded limits) before) step

-- the machine with one step more
abbrev pub with_step : Taken → Step → Taken
with_step machine step = record machine { steps = machine.steps ++ step ∷ [] }

-- A step that was taken stands behind the others, and its outcome is the definition's. After a denial, which is the
-- definition's too, and for want of memory the machine is as it was. Want of memory is told only where nothing denies the
-- step.
abbrev pub Applied : Result Outcome Refusal → Taken → Step → Taken → Type 0
Applied (Ok outcome) before step after = (after ≡ with_step before step) × (next (state_of before) step ≡ Ok (outcome, state_of after))
Applied (Err Memory) before step after = (after ≡ before) × (denial_of (state_of before) step ≡ None)
Applied (Err refusal) before step after = (after ≡ before) × (next (state_of before) step ≡ Err refusal)

-- the actor's step before was to make a node for this operation, and no slot was free before it
abbrev pub FoundNoSlot : Taken → ℕ → ℕ → Type 0
FoundNoSlot machine actor id =
    (before between : List Step) × (machine.steps ≡ before ++ Go actor ∷ between) × ¬ Contains between (Go actor)
    × FindsNoSlot (run (bounded machine.limits) before) actor id
