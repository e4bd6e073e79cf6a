-- A machine's parts: the state that its steps lead to, and what is recorded of them.
use Rattle.std.specs.Prelude.{◌≡◌, List, None, Result, Ok, Err}
use Rattle.step_machine.specs.Vocabulary.{Kind, Refusal, Limits, Outcome, Went, Step, KeysFit, AreLimits, bounded, denial_of, next, run, next_record, record_of, State}
use Rattle.ctrie_base.specs.declared.refusals.Refusal.TheVariants.{Memory}
use Rattle.chronicle.specs.Chronicled.{Chronicled}
use Rattle.proof_runs.specs.Machines.{AreTaken}

-- the parts of a machine that has taken these steps
pub record HasTaken (limits : Limits) (steps : List Step) (state : State) (kept : Chronicled) : Type 0 where
  pub led : state ≡ run (bounded limits) steps
  pub past : kept.past ≡ record_of (bounded limits) steps
  pub slots : kept.slots ≡ limits.slots
  pub in_range : AreLimits limits
  pub taken : AreTaken limits steps
  pub keys : KeysFit steps

-- The step was taken and told, with the definition's outcome; or nothing has changed, since the definition denies it, or for want of memory where nothing does.
abbrev pub TakesAndTells : Result Outcome Refusal → State → Chronicled → Step → State → Chronicled → Type 0
TakesAndTells (Ok outcome) before past step after now = (next before step ≡ Ok (outcome, after)) × (now.past ≡ next_record before past.past step) × (now.slots ≡ past.slots)
TakesAndTells (Err Memory) before past step after now = (after ≡ before) × (now ≡ past) × (denial_of before step ≡ None)
TakesAndTells (Err refusal) before past step after now = (after ≡ before) × (now ≡ past) × (next before step ≡ Err refusal)

-- the outcome of a step that is told by its kind
abbrev pub outcome_of_kind : Result Kind Refusal → Result Outcome Refusal
outcome_of_kind (Ok kind) = Ok (Went kind)
outcome_of_kind (Err refusal) = Err refusal
