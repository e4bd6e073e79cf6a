-- The words of the definition, for the files of this crate.
pub use Rattle.ctrie_base.specs.Hashes.{hash_of}
pub use Rattle.ctrie_base.specs.declared.kinds.Kind.{Kind}
pub use Rattle.ctrie_base.specs.declared.refusals.Refusal.{Refusal}
pub use Rattle.step_machine.specs.Beneath.slot_arena.specs.Heaps.{in_use, logical_main}
unfoldable pub use Rattle.step_machine.specs.Beneath.slot_arena.specs.Heaps.{node_at}
pub use Rattle.history.specs.Orders.{Explains}
pub use Rattle.history.specs.Worlds.{HandleMap}
pub use Rattle.history.specs.declared.calls.Call.{Call}
pub use Rattle.history.specs.declared.replies.Reply.{Reply}
pub use Rattle.history.specs.declared.replies.Reply.TheVariants.{NoSlots}
pub use Rattle.machine_model.specs.Contents.{content_at, most_levels}
pub use Rattle.machine_model.specs.GivingUp.{given_up}
pub use Rattle.machine_model.specs.Keys.{FitsKey, KeysFit}
pub use Rattle.machine_model.specs.Laws.{RefusedForWantAlone}
pub use Rattle.machine_model.specs.Limits.{AreLimits, bounded}
pub use Rattle.machine_model.specs.Machine.{AreBounds, begin_denial, begin_unless, denial_of, first_reason, give_up_by, give_up_on, give_up_unless, go_denial, go_unless, is_actor, is_spent}
pub use Rattle.machine_model.specs.Machine.{is_taken_step, next_state, run, taken_steps}
unfoldable pub use Rattle.machine_model.specs.Machine.{next, run_from, taken_from}
pub use Rattle.machine_model.specs.Operations.{action_of}
pub use Rattle.machine_model.specs.Records.{Record, first_record, next_record, noted, order_of, record_of}
unfoldable pub use Rattle.machine_model.specs.Records.{record_from}
pub use Rattle.machine_model.specs.Refusing.{RefusesLimits}
pub use Rattle.machine_model.specs.States.{State, operation_of, root_at, root_of, word_at, word_of}
unfoldable pub use Rattle.machine_model.specs.States.{first_state}
pub use Rattle.machine_model.specs.Tellings.{entrant_of, progress_of, told_by, told_in, told_of}
pub use Rattle.machine_model.specs.declared.actions.Action.{Action}
pub use Rattle.machine_model.specs.declared.operations.Operation.{Operation}
pub use Rattle.machine_model.specs.declared.records.Entrant.{Entrant}
pub use Rattle.machine_model.specs.declared.records.Progress.{Progress}
pub use Rattle.machine_model.specs.declared.records.Told.{Told}
pub use Rattle.machine_model.specs.declared.roots.Root.{Root}
pub use Rattle.machine_model.specs.declared.steps.Bounds.{Bounds}
pub use Rattle.machine_model.specs.declared.steps.Limits.{Limits}
pub use Rattle.machine_model.specs.declared.steps.Outcome.{Outcome}
pub use Rattle.machine_model.specs.declared.steps.Outcome.TheVariants.{Ended, Went}
pub use Rattle.machine_model.specs.declared.steps.Step.{Step}
