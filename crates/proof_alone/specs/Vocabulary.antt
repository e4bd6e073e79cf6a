-- The words of the definition and of the crates below, for the files of this crate.
pub use Rattle.proof_alone.specs.Beneath.ctrie_base.specs.Hashes.{hash_of}
pub use Rattle.proof_alone.specs.Beneath.ctrie_base.specs.declared.kinds.Kind.{Kind}
pub use Rattle.proof_alone.specs.Beneath.slot_arena.specs.Heaps.{Heap, in_use}
pub use Rattle.proof_alone.specs.Beneath.slot_arena.specs.Refs.{most_slots}
pub use Rattle.proof_alone.specs.Beneath.history.specs.Effects.{Effect}
pub use Rattle.proof_alone.specs.Beneath.history.specs.Worlds.{HandleMap}
pub use Rattle.proof_alone.specs.Beneath.history.specs.declared.calls.Call.{Call}
pub use Rattle.proof_alone.specs.Beneath.history.specs.declared.calls.Call.TheVariants.{Clear, Close, Count, Entries, Freeze, Snapshot}
pub use Rattle.proof_alone.specs.Beneath.history.specs.declared.events.Event.{Event}
pub use Rattle.proof_alone.specs.Beneath.history.specs.declared.replies.Reply.{Reply}
pub use Rattle.proof_alone.specs.Beneath.history.specs.declared.replies.Reply.TheVariants.{Closed, NoSlots}
pub use Rattle.proof_alone.specs.Beneath.machine_model.specs.Acting.{gone, operation_after}
pub use Rattle.proof_alone.specs.Beneath.machine_model.specs.Calls.{is_close, key_of}
pub use Rattle.proof_alone.specs.Beneath.machine_model.specs.Contents.{content_at}
pub use Rattle.proof_alone.specs.Beneath.machine_model.specs.Counting.{settled}
pub use Rattle.proof_alone.specs.Beneath.machine_model.specs.Keys.{FitsKey, KeysFit}
pub use Rattle.proof_alone.specs.Beneath.machine_model.specs.Laws.{FindsNoSlot}
pub use Rattle.proof_alone.specs.Beneath.machine_model.specs.Machine.{Answer, AreBounds, begin_denial, begin_unless, begun_operation, is_busy, is_taken_step, longest_life, most_actors, next_state}
pub use Rattle.proof_alone.specs.Beneath.machine_model.specs.Machine.{run, state_after, with_begin}
unfoldable pub use Rattle.proof_alone.specs.Beneath.machine_model.specs.Machine.{next}
pub use Rattle.proof_alone.specs.Beneath.machine_model.specs.Moves.{Begins, Ends, GivesUp, Moves, Sweeps}
pub use Rattle.proof_alone.specs.Beneath.machine_model.specs.Records.{Record, first_record, next_record, noted, record_of}
pub use Rattle.proof_alone.specs.Beneath.machine_model.specs.States.{State, operation_of, root_at}
unfoldable pub use Rattle.proof_alone.specs.Beneath.machine_model.specs.States.{first_state}
pub use Rattle.proof_alone.specs.Beneath.machine_model.specs.Tellings.{told_in}
pub use Rattle.proof_alone.specs.Beneath.machine_model.specs.declared.operations.Operation.{Operation}
pub use Rattle.proof_alone.specs.Beneath.machine_model.specs.declared.roots.Root.{Root}
pub use Rattle.proof_alone.specs.Beneath.machine_model.specs.declared.steps.Bounds.{Bounds}
pub use Rattle.proof_alone.specs.Beneath.machine_model.specs.declared.steps.Outcome.{Outcome}
pub use Rattle.proof_alone.specs.Beneath.machine_model.specs.declared.steps.Outcome.TheVariants.{Began, Ended, Went}
pub use Rattle.proof_alone.specs.Beneath.machine_model.specs.declared.steps.Step.{Step}
pub use Rattle.proof_alone.specs.Beneath.machine_model.specs.declared.steps.Step.TheVariants.{GiveUp, Go, Sweep}
pub use Rattle.proof_alone.specs.Beneath.proof_memory.specs.Sweeping.{UsesReached, steps_for_a_slot}
pub use Rattle.proof_alone.specs.Beneath.proof_order.specs.Running.{IsSame}
pub use Rattle.proof_alone.specs.Beneath.proof_linearizable.specs.Laws.{RanAlone, acts, refused}
pub use Rattle.proof_obstruction_free.specs.Calls.{IsNoWalk, slots_of}
pub use Rattle.proof_obstruction_free.specs.Copies.{IsCopying}
pub use Rattle.proof_obstruction_free.specs.Laws.{GoesOnAt, IsOnKeyOrRoot, RunsAlone, alone_after, most_steps_alone}
pub use Rattle.proof_obstruction_free.specs.Slots.{most_makes_alone, most_steps_of_copies}
unfoldable pub use Rattle.proof_obstruction_free.specs.Slots.{makes_alone}
pub use Rattle.proof_straight.specs.Resting.{IsOfRun}
pub use Rattle.proof_straight.specs.Running.{Comes, starts, walks}
pub use Rattle.map_worlds.specs.Worlds.{named_at, world_of}
