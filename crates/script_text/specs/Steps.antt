-- The steps that a line names in a state.
use Rattle.std.specs.Prelude.{ℕ, zero, suc, Bool, true, false, List, [], ◌∷◌, ◌++◌, Option, Some, None, replicate, if◌then◌else◌}
use Rattle.std.specs.Str.{bytes_eq}
use Rattle.ctrie_base.specs.declared.kinds.Kind.{Kind}
use Rattle.ctrie_base.specs.Kinds.{name_of}
use Rattle.ctrie_base.specs.declared.refusals.Refusal.{Refusal}
use Rattle.machine_model.specs.declared.steps.Step.{Step}
use Rattle.machine_model.specs.declared.steps.Step.TheVariants as step
use Rattle.machine_model.specs.States.{State}
use Rattle.machine_model.specs.Going.{go_limit}
use Rattle.machine_model.specs.Machine.{next_kind, begin_denial, go_denial, next_state, run_from}
use Rattle.script_text.specs.declared.commands.Command.{Command}
use Rattle.script_text.specs.declared.commands.Command.TheVariants.{Begin, Go, Until, Finish, Do, Sweep}

-- whether steps stop here: where no operation runs, and where the next step is of the kind that is waited for
abbrev pub stops : Option Kind → Option Kind → Bool
stops wanted None = true
stops None (Some kind) = false
stops (Some wanted) (Some kind) = bytes_eq (name_of wanted) (name_of kind)

-- steps of an actor's operation up to where they stop, at most so many
unfoldable pub going : ℕ → Option Kind → ℕ → State → List Step
going zero wanted actor state = []
going (suc left) wanted actor state =
    if stops wanted (next_kind state actor) then [] else step.Go actor ∷ going left wanted actor (next_state state (step.Go actor))

-- the begin of `do`, and the steps behind it, unless it is denied
abbrev pub doing : ℕ → Step → Option Refusal → State → List Step
doing actor begins (Some refusal) state = begins ∷ []
doing actor begins None state = begins ∷ going go_limit None actor (next_state state begins)

-- the steps that a line names in a state; where it gives no number of steps, no more than the limit
unfoldable pub steps_of : State → Command → List Step
steps_of state (Begin actor call) = step.Begin actor call None ∷ []
steps_of state (Go actor times) = going times None actor state
steps_of state (Until actor kind) = going go_limit (Some kind) actor state
steps_of state (Finish actor) = going go_limit None actor state
steps_of state (Do actor call) = doing actor (step.Begin actor call None) (begin_denial state actor call None) state
steps_of state (Sweep times) = replicate times step.Sweep

-- why a line is denied
unfoldable pub denial_of : State → Command → Option Refusal
denial_of state (Begin actor call) = begin_denial state actor call None
denial_of state (Go actor times) = go_denial state actor
denial_of state (Until actor kind) = go_denial state actor
denial_of state (Finish actor) = go_denial state actor
denial_of state (Do actor call) = begin_denial state actor call None
denial_of state (Sweep times) = None

-- the state after a line. A step that is denied changes nothing.
abbrev pub after_command : State → Command → State
after_command state command = run_from state (steps_of state command)

-- the steps that these lines name, one after the other
unfoldable pub all_steps : State → List Command → List Step
all_steps state [] = []
all_steps state (command ∷ more) = steps_of state command ++ all_steps (after_command state command) more
