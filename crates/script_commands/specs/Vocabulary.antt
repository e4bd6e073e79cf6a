-- The words of the definition, for the files of this crate.
pub use Rattle.ctrie_base.specs.Hashes.{hash_of}
pub use Rattle.ctrie_base.specs.Refusals.{number_of}
pub use Rattle.ctrie_base.specs.declared.hashes.HashKind.{HashKind}
pub use Rattle.ctrie_base.specs.declared.kinds.Kind.{Kind}
pub use Rattle.ctrie_base.specs.declared.refusals.Refusal.{Refusal}
pub use Rattle.ctrie_base.specs.declared.refusals.Refusal.TheVariants.{ActorBusy, BadHeader, BadLimits, BadLine, BadNumber, BadOrder, Busy, HandlesFull, Idle, NoActor, NoHandle, NotReadOnly, Spent}
pub use Rattle.ctrie_base.specs.declared.refusals.Refusal.TheVariants.{TooLong}
pub use Rattle.script_commands.specs.Beneath.slot_arena.specs.Heaps.{in_use}
pub use Rattle.history.specs.Histories.{begun}
pub use Rattle.history.specs.Orders.{IsLegal}
pub use Rattle.history.specs.declared.calls.Call.{Call}
pub use Rattle.history.specs.declared.calls.Call.TheVariants.{Get, Put, PutIfAbsent, Remove, RemoveIf, Replace, ReplaceIf}
pub use Rattle.history.specs.declared.events.Event.{Event}
pub use Rattle.script_commands.specs.Beneath.machine_model.specs.Going.{go_limit}
pub use Rattle.script_commands.specs.Beneath.machine_model.specs.Keys.{FitsKey, KeysFit}
pub use Rattle.script_commands.specs.Beneath.machine_model.specs.Limits.{AreLimits, bounded}
pub use Rattle.script_commands.specs.Beneath.machine_model.specs.Machine.{Answer, AreBounds, begin_denial, begin_unless, begun_operation, go_denial, go_on, go_unless, next_kind, next_state, run}
unfoldable pub use Rattle.script_commands.specs.Beneath.machine_model.specs.Machine.{next, run_from}
pub use Rattle.script_commands.specs.Beneath.machine_model.specs.Moves.{Begins, Ends, GivesUp, Moves, MovesIfTaken, Sweeps}
pub use Rattle.script_commands.specs.Beneath.machine_model.specs.Operations.{action_of, kind_of}
pub use Rattle.script_commands.specs.Beneath.machine_model.specs.Records.{Record, first_record, next_record, noted, order_of, record_of}
unfoldable pub use Rattle.script_commands.specs.Beneath.machine_model.specs.Records.{record_from}
pub use Rattle.script_commands.specs.Beneath.machine_model.specs.States.{State, operation_of}
unfoldable pub use Rattle.script_commands.specs.Beneath.machine_model.specs.States.{first_state}
pub use Rattle.script_commands.specs.Beneath.machine_model.specs.Tellings.{told_in}
pub use Rattle.script_commands.specs.Beneath.machine_model.specs.declared.operations.Operation.{Operation}
pub use Rattle.script_commands.specs.Beneath.machine_model.specs.declared.steps.Bounds.{Bounds}
pub use Rattle.script_commands.specs.Beneath.machine_model.specs.declared.steps.Limits.{Limits}
pub use Rattle.script_commands.specs.Beneath.machine_model.specs.declared.steps.Outcome.{Outcome}
pub use Rattle.script_commands.specs.Beneath.machine_model.specs.declared.steps.Step.{Step}
pub use Rattle.script_commands.specs.Beneath.machine_model.specs.declared.steps.Step.TheVariants.{Go, Sweep}
