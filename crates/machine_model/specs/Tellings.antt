-- What a step that is taken tells, beside its outcome. All of it is computed from the state before the step.
use Rattle.std.specs.Prelude.{ℕ, Bool, true, false, Option, Some, None, if◌then◌else◌}
use Rattle.history.specs.declared.calls.Call.{Call}
use Rattle.machine_model.specs.Beneath.slot_arena.specs.declared.refs.Ref.{Ref}
use Rattle.machine_model.specs.declared.operations.Operation.{Operation}
use Rattle.machine_model.specs.declared.reading.After.{After}
use Rattle.machine_model.specs.declared.reading.After.TheVariants.{Goes, Gives}
use Rattle.machine_model.specs.declared.reading.Read.{Read}
use Rattle.machine_model.specs.declared.reading.SwapLine.{SwapLine}
use Rattle.machine_model.specs.declared.reading.SwapLine.TheVariants as swap
use Rattle.machine_model.specs.declared.lines.Line.{Line}
use Rattle.machine_model.specs.declared.lines.Line.TheVariants as line
use Rattle.machine_model.specs.declared.lines.Purpose.{Purpose}
use Rattle.machine_model.specs.declared.lines.Purpose.TheVariants as purpose
use Rattle.machine_model.specs.declared.actions.Action.{Action}
use Rattle.machine_model.specs.declared.actions.Action.TheVariants as act
use Rattle.machine_model.specs.declared.records.Carried.{Carried}
use Rattle.machine_model.specs.declared.records.Entrant.{Entrant}
use Rattle.machine_model.specs.declared.records.Progress.{Progress}
use Rattle.machine_model.specs.declared.records.Publication.{Publication}
use Rattle.machine_model.specs.declared.records.Told.{Told}
use Rattle.machine_model.specs.declared.records.Told.TheVariants as told
use Rattle.machine_model.specs.declared.steps.Step.{Step}
use Rattle.machine_model.specs.declared.steps.Step.TheVariants as step
use Rattle.machine_model.specs.Beneath.slot_arena.specs.Heaps.{generation_at}
use Rattle.machine_model.specs.Calls.{handle_of}
use Rattle.machine_model.specs.States.{State, operation_of, word_at}
use Rattle.machine_model.specs.Reading.{read_step, committed_by}
use Rattle.machine_model.specs.Swapping.{is_carried_out}
use Rattle.machine_model.specs.Operations.{read_of, action_of}
use Rattle.machine_model.specs.Machine.{begun_operation}

-- the operation, as the order knows it
abbrev pub entrant_of : Operation → Entrant
entrant_of operation = record { id = operation.id; access = operation.access; generation = operation.generation }

abbrev pub committed_in : State → Option Read → Option Ref
committed_in state None = None
committed_in state (Some r) = committed_by state.heap r.indirection r.line

-- the main node that the operation's step commits, if it does
abbrev pub committed_now : State → Operation → Option Ref
committed_now state operation = committed_in state (read_of operation.line)

abbrev pub given_by : After Read Ref → Option Ref
given_by (Goes r) = None
given_by (Gives main) = Some main

abbrev pub given_in : State → Operation → Option Read → Option Ref
given_in state operation None = None
given_in state operation (Some r) = given_by (read_step state operation r)

-- the main node that the operation's READ gives by its step, if it does
abbrev pub given_now : State → Operation → Option Ref
given_now state operation = given_in state operation (read_of operation.line)

-- a READ counts from its last read of the main word, or its last swap of it
abbrev pub counts_from : Action → Bool
counts_from (act.ReadMain indirection) = true
counts_from (act.Restore indirection main previous) = true
counts_from action = false

-- whose change of its key it is what a SWAP for this purpose puts in
abbrev pub changer_for : Operation → Purpose → Option Entrant
changer_for operation (purpose.Update path former) = Some (entrant_of operation)
changer_for operation why = None

abbrev pub published_at : Option Entrant → Ref → SwapLine → Option Publication
published_at changer main swap.Publish = Some (record { main = main; changer = changer })
published_at changer main l = None

-- the main node that the operation is about to swap in
abbrev pub published_by : Operation → Line → Option Publication
published_by operation (line.Swap why s) = published_at (changer_for operation why) s.fresh s.line
published_by operation l = None

-- the offer that is carried out
abbrev pub carried_by : State → ℕ → Action → Option Carried
carried_by state handle (act.Complete offer main) =
    if is_carried_out (word_at state handle) offer main then Some (record { generation = generation_at state.heap offer.root; operation = offer.operation }) else None
carried_by state handle action = None

-- what the operation's step tells where it isn't the end
abbrev pub progress_of : State → Operation → Progress
progress_of state operation = record {
  committed = committed_now state operation;
  given = given_now state operation;
  counts = counts_from (action_of state operation);
  published = published_by operation operation.line;
  carried = carried_by state (handle_of operation.call) (action_of state operation);
}

abbrev pub told_by : State → ℕ → Operation → Action → Told
told_by state actor operation (act.End answer) = told.Ended actor (entrant_of operation) answer
told_by state actor operation action = told.Went actor (progress_of state operation)

-- what a step of what the actor runs tells; where it runs nothing no step is taken
abbrev pub told_of : State → ℕ → Option Operation → Told
told_of state actor None = told.Nothing
told_of state actor (Some operation) = told_by state actor operation (action_of state operation)

abbrev pub begin_told : ℕ → Call → Operation → Told
begin_told actor call operation = told.Began operation.id actor call operation.opens

-- what a step tells
abbrev pub told_in : State → Step → Told
told_in state (step.Begin actor call number) = begin_told actor call (begun_operation state call number)
told_in state (step.Go actor) = told_of state actor (operation_of state actor)
told_in state step.Sweep = told.Nothing
told_in state (step.GiveUp actor) = told.Nothing
