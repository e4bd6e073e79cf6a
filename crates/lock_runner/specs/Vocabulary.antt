-- The words of the definition, for the files of this crate.
pub use Rattle.ctrie_base.specs.declared.kinds.Kind.{Kind}
pub use Rattle.ctrie_base.specs.declared.refusals.Refusal.{Refusal}
pub use Rattle.ctrie_base.specs.declared.refusals.Refusal.TheVariants.{ActorBusy, BadLimits, Idle, Spent}
pub use Rattle.lock_runner.specs.Beneath.epochs.specs.declared.limbo.Swept.{Swept}
pub use Rattle.history.specs.Histories.{BeginsAt, EndsAt, HasEnded, IsRunning, begun}
pub use Rattle.history.specs.declared.calls.Call.{Call}
pub use Rattle.history.specs.declared.events.Event.{Event}
pub use Rattle.history.specs.declared.events.Event.TheVariants.{End}
pub use Rattle.history.specs.declared.replies.Reply.{Reply}
pub use Rattle.lock_runner.specs.Beneath.machine_model.specs.Acting.{ended, gone, marked, operation_after}
pub use Rattle.lock_runner.specs.Beneath.machine_model.specs.GivingUp.{gave_up}
pub use Rattle.lock_runner.specs.Beneath.machine_model.specs.Limits.{AreLimits, bounded}
pub use Rattle.lock_runner.specs.Beneath.machine_model.specs.Machine.{Answer, begin_denial, begin_unless, begun_operation, denial_of, first_reason, go_on, go_unless, is_actor, is_running, is_spent}
pub use Rattle.lock_runner.specs.Beneath.machine_model.specs.Machine.{is_taken_step, next_state, run, settled_after, swept, went, with_begin}
unfoldable pub use Rattle.lock_runner.specs.Beneath.machine_model.specs.Machine.{next, run_from}
pub use Rattle.lock_runner.specs.Beneath.machine_model.specs.Moves.{Begins, Ends, GivesUp, Moves, Sweeps}
pub use Rattle.lock_runner.specs.Beneath.machine_model.specs.Operations.{action_of}
pub use Rattle.lock_runner.specs.Beneath.machine_model.specs.Records.{Record, first_record, next_record, noted, record_of}
unfoldable pub use Rattle.lock_runner.specs.Beneath.machine_model.specs.Records.{record_from}
pub use Rattle.lock_runner.specs.Beneath.machine_model.specs.States.{State, operation_of, with_operation}
unfoldable pub use Rattle.lock_runner.specs.Beneath.machine_model.specs.States.{first_state}
pub use Rattle.lock_runner.specs.Beneath.machine_model.specs.Tellings.{told_in}
pub use Rattle.lock_runner.specs.Beneath.machine_model.specs.declared.operations.Operation.{Operation}
pub use Rattle.lock_runner.specs.Beneath.machine_model.specs.declared.records.Told.{Told}
pub use Rattle.lock_runner.specs.Beneath.machine_model.specs.declared.steps.Bounds.{Bounds}
pub use Rattle.lock_runner.specs.Beneath.machine_model.specs.declared.steps.Limits.{Limits}
pub use Rattle.lock_runner.specs.Beneath.machine_model.specs.declared.steps.Outcome.{Outcome}
pub use Rattle.lock_runner.specs.Beneath.machine_model.specs.declared.steps.Step.{Step}
