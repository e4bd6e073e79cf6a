-- The machine: one atomic step, and runs of steps.
use Rattle.std.specs.Prelude.{ℕ, zero, suc, ◌+◌, ◌-◌, ◌==◌, ◌≤◌, ◌^◌, ◌||◌, ◌&&◌, Bool, true, false, not, nat_lt, nat_le, is_some, List, [], ◌∷◌, map, Option, Some, None, option_map, option_and_then}
use Rattle.std.specs.Prelude.{unwrap_or, Result, Ok, Err, if◌then◌else◌}
use Rattle.std.specs.List.{list_any}
use Rattle.machine_model.specs.Beneath.ctrie_base.specs.declared.kinds.Kind.{Kind}
use Rattle.machine_model.specs.Beneath.ctrie_base.specs.declared.kinds.Kind.TheVariants as kind
use Rattle.machine_model.specs.Beneath.ctrie_base.specs.declared.refusals.Refusal.{Refusal}
use Rattle.machine_model.specs.Beneath.ctrie_base.specs.declared.refusals.Refusal.TheVariants as refuse
use Rattle.history.specs.declared.calls.Access.{Access}
use Rattle.history.specs.declared.calls.Access.TheVariants.{Writable, ReadOnly}
use Rattle.history.specs.declared.calls.Call.{Call}
use Rattle.history.specs.declared.replies.Reply.{Reply}
use Rattle.machine_model.specs.declared.operations.Operation.{Operation}
use Rattle.machine_model.specs.declared.actions.Action.{Action}
use Rattle.machine_model.specs.declared.actions.Action.TheVariants as act
use Rattle.machine_model.specs.declared.roots.Root.{Root}
use Rattle.machine_model.specs.declared.steps.Bounds.{Bounds}
use Rattle.machine_model.specs.declared.steps.Step.{Step}
use Rattle.machine_model.specs.declared.steps.Step.TheVariants as step
use Rattle.epochs.specs.declared.limbo.Swept.{Swept}
use Rattle.epochs.specs.Sweeping.{Reclaimer, swept_once}
use Rattle.machine_model.specs.declared.steps.Outcome.{Outcome}
use Rattle.machine_model.specs.declared.steps.Outcome.TheVariants as outcome
use Rattle.machine_model.specs.Calls.{handle_of, needs_writable, needs_read_only, opens_handle, is_close}
use Rattle.machine_model.specs.States.{State, first_state, handle_limit, root_at, operation_of, with_root, with_operation}
use Rattle.machine_model.specs.Operations.{first_line, action_of, kind_of}
use Rattle.machine_model.specs.GivingUp.{given_up, gave_up}
use Rattle.machine_model.specs.Acting.{gone, ended}
use Rattle.machine_model.specs.Counting.{settled}

-- what a step gives: its outcome and the state after it, or a refusal
abbrev pub Answer : Type 0
Answer = Result (Outcome × State) Refusal

-- the outcome, and the state with what every step does at its end
abbrev pub settled_after : State → Outcome × State → Answer
settled_after state done = Ok (done.0, settled state done.1)

-- ---- beginning

-- the actor is one of the machine's
abbrev pub is_actor : State → ℕ → Bool
is_actor state actor = nat_lt 0 actor && nat_le actor state.limits.actors

-- the actor runs an operation
abbrev pub is_running : State → ℕ → Bool
is_running state actor = is_some (operation_of state actor)

-- the kind of the next step of the actor's operation, if one runs
abbrev pub next_kind : State → ℕ → Option Kind
next_kind state actor = option_map (λ operation. kind_of (action_of state operation)) (operation_of state actor)

-- some actor runs one
abbrev pub is_busy : State → Bool
is_busy state = list_any is_some state.actors

-- an operation runs whose call names this handle
abbrev pub names : ℕ → Option Operation → Bool
names handle None = false
names handle (Some operation) = handle_of operation.call == handle

abbrev pub runs_on : State → ℕ → Bool
runs_on state handle = list_any (names handle) state.actors

-- the handle that an operation has reserved: it is to open it, and hasn't yet
abbrev pub reserved_by : Option Operation → Option ℕ
reserved_by None = None
reserved_by (Some operation) = if operation.is_marked then None else operation.opens

abbrev pub is_number : ℕ → Option ℕ → Bool
is_number n None = false
is_number n (Some m) = m == n

-- the handle number is open or reserved
abbrev pub is_taken : State → ℕ → Bool
is_taken state handle = is_some (root_at state handle) || list_any (λ operation. is_number handle (reserved_by operation)) state.actors

unfoldable pub taken_below : State → ℕ → ℕ
taken_below state zero = 0
taken_below state (suc n) = taken_below state n + (if is_taken state n then 1 else 0)

-- how many handles are open or reserved
abbrev pub handles_taken : State → ℕ
handles_taken state = taken_below state handle_limit

-- the handle number is below the limit, and neither open nor reserved
abbrev pub is_free : State → ℕ → Bool
is_free state handle = nat_lt handle handle_limit && not (is_taken state handle)

unfoldable pub least_from : State → ℕ → ℕ → ℕ
least_from state zero n = n
least_from state (suc left) n = if is_taken state n then least_from state left (n + 1) else n

-- the least handle number that is neither open nor reserved
abbrev pub least_free : State → ℕ
least_free state = least_from state handle_limit 0

-- the number of the handle that a call opens: the chosen one, or the least free one where none is chosen
abbrev pub number_for : State → Option ℕ → ℕ
number_for state None = least_free state
number_for state (Some number) = number

-- there is no such number: the chosen one isn't free, or where none is chosen, all are taken
abbrev pub lacks_number : State → Option ℕ → Bool
lacks_number state None = nat_le handle_limit (handles_taken state)
lacks_number state (Some number) = not (is_free state number)

abbrev pub access_of : Option Root → Option Access
access_of None = None
access_of (Some root) = Some root.access

-- the first of these refusals whose reason holds
abbrev pub first_reason : List (Bool × Refusal) → Option Refusal
first_reason [] = None
first_reason (r ∷ rs) = if r.0 then Some r.1 else first_reason rs

abbrev pub is_access : Access → Option Access → Bool
is_access access None = false
is_access Writable (Some Writable) = true
is_access Writable (Some ReadOnly) = false
is_access ReadOnly (Some ReadOnly) = true
is_access ReadOnly (Some Writable) = false

-- the machine has taken all its steps
abbrev pub is_spent : State → Bool
is_spent state = nat_le state.limits.steps state.steps

-- why a begin is denied
abbrev pub begin_denial : State → ℕ → Call → Option ℕ → Option Refusal
begin_denial state actor call number =
    let handle = handle_of call in
    let access = access_of (root_at state handle) in
    first_reason (
    (not (is_actor state actor), refuse.NoActor) ∷ (is_running state actor, refuse.ActorBusy) ∷ (not (is_some access), refuse.NoHandle)
    ∷ (needs_writable call && is_access ReadOnly access, refuse.ReadOnly) ∷ (needs_read_only call && is_access Writable access, refuse.NotReadOnly)
    ∷ (is_close call && runs_on state handle, refuse.Busy) ∷ (opens_handle call && lacks_number state number, refuse.HandlesFull)
    ∷ (is_spent state, refuse.Spent) ∷ [])

-- the operation of a new begin
abbrev pub new_operation : State → Call → Access → Option ℕ → Operation
new_operation state call access number = record {
  id = state.begun;
  call = call;
  access = access;
  epoch = state.epoch;
  private = [];
  opens = if opens_handle call then Some (number_for state number) else None;
  attempt = 0;
  is_marked = false;
  generation = None;
  line = first_line call;
}

-- the operation that a begin brings in
abbrev pub begun_operation : State → Call → Option ℕ → Operation
begun_operation state call number = new_operation state call (unwrap_or (access_of (root_at state (handle_of call))) Writable) number

-- a close takes the handle away as it begins
abbrev pub handle_closed : State → Call → State
handle_closed state call = if is_close call then with_root state (handle_of call) None else state

abbrev pub with_begin : State → ℕ → Call → Operation → State
with_begin state actor call operation = record (with_operation (handle_closed state call) actor (Some operation)) { begun = state.begun + 1 }

abbrev pub begin_unless : State → ℕ → Call → Option ℕ → Option Refusal → Answer
begin_unless state actor call number (Some refusal) = Err refusal
begin_unless state actor call number None =
    let operation = begun_operation state call number in
    Ok (outcome.Began operation.id, settled state (with_begin state actor call operation))

-- a step that begins an operation
abbrev pub begin : State → ℕ → Call → Option ℕ → Answer
begin state actor call number = begin_unless state actor call number (begin_denial state actor call number)

-- ---- going on

-- why a step of an actor's operation is denied
abbrev pub go_denial : State → ℕ → Option Refusal
go_denial state actor = first_reason ((not (is_actor state actor), refuse.NoActor) ∷ (not (is_running state actor), refuse.Idle) ∷ (is_spent state, refuse.Spent) ∷ [])

-- what the step of the actor's operation does, but for what every step does at its end
abbrev pub went : State → ℕ → Operation → Action → Outcome × State
went state actor operation (act.End answer) = (outcome.Ended operation.id answer, ended state actor)
went state actor operation action = (outcome.Went (kind_of action), gone state actor operation)

abbrev pub step_by : State → ℕ → Operation → Action → Answer
step_by state actor operation action = settled_after state (went state actor operation action)

abbrev pub go_on : State → ℕ → Option Operation → Answer
go_on state actor None = Err refuse.Idle
go_on state actor (Some operation) = step_by state actor operation (action_of state operation)

abbrev pub go_unless : State → ℕ → Option Refusal → Answer
go_unless state actor (Some refusal) = Err refusal
go_unless state actor None = go_on state actor (operation_of state actor)

-- the next step of the actor's operation
abbrev pub go : State → ℕ → Answer
go state actor = go_unless state actor (go_denial state actor)

-- ---- sweeping

-- the epoch that an actor has recorded: that of its operation's begin, while one runs
abbrev pub pin_of : Option Operation → Option ℕ
pin_of operation = option_map (λ o. o.epoch) operation

abbrev pub reclaimer_of : State → Reclaimer
reclaimer_of state = record { heap = state.heap; limbo = state.limbo; epoch = state.epoch; cursor = state.cursor }

abbrev pub with_reclaimer : State → Reclaimer → State
with_reclaimer state r = record state { heap = r.heap; limbo = r.limbo; epoch = r.epoch; cursor = r.cursor }

abbrev pub swept_with : State → Swept × Reclaimer → Outcome × State
swept_with state done = (outcome.Swept done.0, with_reclaimer state done.1)

-- what a step of the sweep does, but for what every step does at its end
abbrev pub swept : State → Outcome × State
swept state = swept_with state (swept_once (map pin_of state.actors) (reclaimer_of state))

-- a step of the sweep: frees a slot, or reads an actor's epoch, or lets the epoch grow
abbrev pub sweep : State → Answer
sweep state = if is_spent state then Err refuse.Spent else settled_after state (swept state)

-- ---- giving up

-- what the actor's operation answers once it gives up, if one runs and may
abbrev pub answer_given_up : State → ℕ → Option Reply
answer_given_up state actor = option_and_then (λ operation. given_up operation.call operation.line) (operation_of state actor)

-- why giving up is denied
abbrev pub give_up_denial : State → ℕ → Option Refusal
give_up_denial state actor = first_reason (
    (not (is_actor state actor), refuse.NoActor) ∷ (not (is_running state actor), refuse.Idle) ∷ (is_spent state, refuse.Spent)
    ∷ (not (is_some (answer_given_up state actor)), refuse.Busy) ∷ [])

abbrev pub give_up_by : State → ℕ → Operation → Option Reply → Answer
give_up_by state actor operation None = Err refuse.Busy
give_up_by state actor operation (Some answer) = Ok (outcome.Went kind.Make, settled state (with_operation state actor (Some (gave_up operation answer))))

abbrev pub give_up_on : State → ℕ → Option Operation → Answer
give_up_on state actor None = Err refuse.Idle
give_up_on state actor (Some operation) = give_up_by state actor operation (given_up operation.call operation.line)

abbrev pub give_up_unless : State → ℕ → Option Refusal → Answer
give_up_unless state actor (Some refusal) = Err refusal
give_up_unless state actor None = give_up_on state actor (operation_of state actor)

-- the actor's operation gives up: as by a step that is to make a node and finds no free slot
abbrev pub give_up : State → ℕ → Answer
give_up state actor = give_up_unless state actor (go_denial state actor)

-- ---- steps and runs

-- one atomic step
unfoldable pub next : State → Step → Answer
next state (step.Begin actor call number) = begin state actor call number
next state (step.Go actor) = go state actor
next state step.Sweep = sweep state
next state (step.GiveUp actor) = give_up state actor

-- why a step is denied, where it is
abbrev pub denial_of : State → Step → Option Refusal
denial_of state (step.Begin actor call number) = begin_denial state actor call number
denial_of state (step.Go actor) = go_denial state actor
denial_of state step.Sweep = if is_spent state then Some refuse.Spent else None
denial_of state (step.GiveUp actor) = give_up_denial state actor

abbrev pub state_after : State → Answer → State
state_after state (Ok done) = done.1
state_after state (Err refusal) = state

-- the state after a step; a denied one changes nothing
abbrev pub next_state : State → Step → State
next_state state s = state_after state (next state s)

-- the state after these steps
unfoldable pub run_from : State → List Step → State
run_from state [] = state
run_from state (s ∷ steps) = run_from (next_state state s) steps

-- the state of a machine after these steps
abbrev pub run : Bounds → List Step → State
run limits steps = run_from (first_state limits) steps

abbrev pub is_taken_step : Answer → Bool
is_taken_step (Ok done) = true
is_taken_step (Err refusal) = false

-- the steps that were taken: all but the denied ones
unfoldable pub taken_from : State → List Step → List Step
taken_from state [] = []
taken_from state (s ∷ steps) = if is_taken_step (next state s) then s ∷ taken_from (next_state state s) steps else taken_from (next_state state s) steps

abbrev pub taken_steps : Bounds → List Step → List Step
taken_steps limits steps = taken_from (first_state limits) steps

-- how many steps a machine takes at most that lives long: of two, one at most draws a birth, but for the slots that are in use at the end
abbrev pub longest_life : ℕ
longest_life = 2 ^ 45 - 2 ^ 21

-- how many actors a program's machine has at most
abbrev pub most_actors : ℕ
most_actors = 64

-- the bounds are in range: of slots and of steps there may be any number, and up to 255 actors
abbrev pub AreBounds : Bounds → Type 0
AreBounds limits = (2 ≤ limits.slots) × (1 ≤ limits.actors) × (limits.actors ≤ 255)
