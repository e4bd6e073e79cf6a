-- The words of the definition, for the files of this crate.
pub use Rattle.proof_counterexamples.specs.Beneath.ctrie_base.specs.Hashes.{hash_of}
pub use Rattle.proof_counterexamples.specs.Beneath.ctrie_base.specs.Paths.{position_of}
unfoldable pub use Rattle.proof_counterexamples.specs.Beneath.slot_arena.specs.Counts.{count_of}
pub use Rattle.proof_counterexamples.specs.Beneath.slot_arena.specs.Heaps.{Heap, bitmap_of, generation_at, next_ref, written}
unfoldable pub use Rattle.proof_counterexamples.specs.Beneath.slot_arena.specs.Heaps.{freed, node_at, prev_at, stored, taken, with_main, with_prev}
pub use Rattle.proof_counterexamples.specs.Beneath.slot_arena.specs.declared.nodes.Node.{Node}
pub use Rattle.proof_counterexamples.specs.Beneath.slot_arena.specs.declared.refs.Ref.{Ref}
pub use Rattle.proof_counterexamples.specs.Beneath.nodes.specs.Builders.{removed}
unfoldable pub use Rattle.proof_counterexamples.specs.Beneath.places.specs.Places.{ids_by_place}
pub use Rattle.proof_counterexamples.specs.Beneath.places.specs.declared.place.Place.{Place}
pub use Rattle.proof_counterexamples.specs.Beneath.history.specs.Effects.{Effect, is_crowded, naming, remove_in, with_access}
pub use Rattle.proof_counterexamples.specs.Beneath.history.specs.Histories.{BeginsAt, EndsAt, HasEnded, IsWellFormed}
pub use Rattle.proof_counterexamples.specs.Beneath.history.specs.Orders.{Answered, Explains, IsLegal, OrderedAt, Recalls, RecallsEach, Replays}
pub use Rattle.proof_counterexamples.specs.Beneath.history.specs.Worlds.{HandleMap, HandleState, KeyMap, first_world}
pub use Rattle.proof_counterexamples.specs.Beneath.history.specs.declared.calls.Access.{Access}
pub use Rattle.proof_counterexamples.specs.Beneath.history.specs.declared.calls.Access.TheVariants.{ReadOnly, Writable}
pub use Rattle.proof_counterexamples.specs.Beneath.history.specs.declared.calls.Call.{Call}
pub use Rattle.proof_counterexamples.specs.Beneath.history.specs.declared.calls.Call.TheVariants.{Freeze, Get, Put, Remove, Snapshot}
pub use Rattle.proof_counterexamples.specs.Beneath.history.specs.declared.events.Event.{Event}
pub use Rattle.proof_counterexamples.specs.Beneath.history.specs.declared.events.Event.TheVariants.{End}
pub use Rattle.proof_counterexamples.specs.Beneath.history.specs.declared.replies.Reply.{Reply}
pub use Rattle.proof_counterexamples.specs.Beneath.history.specs.declared.replies.Reply.TheVariants.{NoSlots}
pub use Rattle.machine_model.specs.Building.{changed}
pub use Rattle.machine_model.specs.Calls.{handle_of}
pub use Rattle.machine_model.specs.Machine.{next_state}
unfoldable pub use Rattle.machine_model.specs.Machine.{least_from, next, taken_below}
pub use Rattle.machine_model.specs.Operations.{given_root}
pub use Rattle.machine_model.specs.Paths.{flag_in}
pub use Rattle.machine_model.specs.Records.{Record, first_record, next_record, order_of, place_of, record_of}
unfoldable pub use Rattle.machine_model.specs.Records.{record_from}
pub use Rattle.machine_model.specs.Runs.{sized, taking}
pub use Rattle.machine_model.specs.States.{State, operation_of, word_at}
unfoldable pub use Rattle.machine_model.specs.States.{first_state}
pub use Rattle.machine_model.specs.Swapping.{root_after}
pub use Rattle.machine_model.specs.Tellings.{entrant_of}
pub use Rattle.machine_model.specs.declared.lines.Line.{Line}
pub use Rattle.machine_model.specs.declared.operations.Operation.{Operation}
pub use Rattle.machine_model.specs.declared.reading.SwapLine.{SwapLine}
pub use Rattle.machine_model.specs.declared.roots.Complete.{Complete}
pub use Rattle.machine_model.specs.declared.roots.CompleteLine.{CompleteLine}
pub use Rattle.machine_model.specs.declared.roots.Descriptor.{Descriptor}
pub use Rattle.machine_model.specs.declared.steps.Bounds.{Bounds}
pub use Rattle.machine_model.specs.declared.steps.Step.{Step}
