-- The words of the definition and of the crates below, for the files of this crate.
pub use Rattle.proof_runs.specs.Beneath.ctrie_base.specs.Hashes.{hash_of}
pub use Rattle.proof_runs.specs.Beneath.ctrie_base.specs.declared.refusals.Refusal.{Refusal}
pub use Rattle.proof_runs.specs.Beneath.ctrie_base.specs.declared.refusals.Refusal.TheVariants.{Busy, NoHandle, Spent}
pub use Rattle.proof_runs.specs.Beneath.slot_arena.specs.Heaps.{Heap, generation_at, generation_of, main_at, refs_of_slot}
unfoldable pub use Rattle.proof_runs.specs.Beneath.slot_arena.specs.Heaps.{prev_at, stored}
pub use Rattle.proof_runs.specs.Beneath.slot_arena.specs.Refs.{birth_of, most_slots, slot_of}
pub use Rattle.proof_runs.specs.Beneath.slot_arena.specs.declared.nodes.Prev.{Prev}
pub use Rattle.proof_runs.specs.Beneath.slot_arena.specs.declared.nodes.Slot.{Slot}
pub use Rattle.proof_runs.specs.Beneath.slot_arena.specs.declared.refs.Ref.{Ref}
pub use Rattle.proof_runs.specs.Beneath.places.specs.declared.place.Place.{Place}
pub use Rattle.proof_runs.specs.Beneath.history.specs.Histories.{BeginsAt, HasEnded, begun}
pub use Rattle.proof_runs.specs.Beneath.history.specs.Orders.{Explains, IsLegal}
pub use Rattle.proof_runs.specs.Beneath.history.specs.Worlds.{HandleMap, HandleState}
pub use Rattle.proof_runs.specs.Beneath.history.specs.declared.calls.Access.{Access}
pub use Rattle.proof_runs.specs.Beneath.history.specs.declared.calls.Access.TheVariants.{ReadOnly, Writable}
pub use Rattle.proof_runs.specs.Beneath.history.specs.declared.calls.Call.{Call}
pub use Rattle.proof_runs.specs.Beneath.history.specs.declared.calls.Call.TheVariants.{Clear, Close, Freeze, Snapshot}
pub use Rattle.proof_runs.specs.Beneath.history.specs.declared.events.Event.{Event}
pub use Rattle.proof_runs.specs.Beneath.history.specs.declared.events.Event.TheVariants.{End}
pub use Rattle.proof_runs.specs.Beneath.history.specs.declared.replies.Reply.{Reply}
pub use Rattle.proof_runs.specs.Beneath.history.specs.declared.replies.Reply.TheVariants.{Closed, NoSlots}
pub use Rattle.proof_runs.specs.Beneath.machine_model.specs.Acting.{gone, operation_after}
pub use Rattle.proof_runs.specs.Beneath.machine_model.specs.Calls.{handle_of, is_close}
pub use Rattle.proof_runs.specs.Beneath.machine_model.specs.Contents.{content_at, held}
pub use Rattle.proof_runs.specs.Beneath.machine_model.specs.Counting.{refs_of_root, settled}
pub use Rattle.proof_runs.specs.Beneath.machine_model.specs.Going.{go_limit}
pub use Rattle.proof_runs.specs.Beneath.machine_model.specs.Grown.{of_birth}
pub use Rattle.proof_runs.specs.Beneath.machine_model.specs.Keys.{FitsKey, KeysFit}
pub use Rattle.proof_runs.specs.Beneath.machine_model.specs.Laws.{FindsNoSlot}
pub use Rattle.proof_runs.specs.Beneath.machine_model.specs.Limits.{AreLimits, bounded}
pub use Rattle.proof_runs.specs.Beneath.machine_model.specs.Lines.{new_try}
pub use Rattle.proof_runs.specs.Beneath.machine_model.specs.Machine.{Answer, AreBounds, access_of, begin_denial, begin_unless, begun_operation, denial_of, go_denial, go_on, go_unless, is_access}
pub use Rattle.proof_runs.specs.Beneath.machine_model.specs.Machine.{is_actor, is_busy, is_spent, is_taken_step, longest_life, most_actors, next_state, run, state_after, with_begin}
unfoldable pub use Rattle.proof_runs.specs.Beneath.machine_model.specs.Machine.{next}
pub use Rattle.proof_runs.specs.Beneath.machine_model.specs.Moves.{Begins, Ends, GivesUp, Moves, MovesIfTaken, Sweeps}
pub use Rattle.proof_runs.specs.Beneath.machine_model.specs.Operations.{action_of, completing_read, line_action, read_of, rooting_read, swapping_read}
pub use Rattle.proof_runs.specs.Beneath.machine_model.specs.Reading.{Commits, Fails, Overtaken, Verdict, after_ask, after_decide, after_prev, after_restore, at_indirection, read_action, read_after}
pub use Rattle.proof_runs.specs.Beneath.machine_model.specs.Reading.{verdict}
pub use Rattle.proof_runs.specs.Beneath.machine_model.specs.Records.{Record, changer_of, commits_after, entered, entered_at_begin, entered_at_end, entered_by, first_record, is_placed, moment_at}
pub use Rattle.proof_runs.specs.Beneath.machine_model.specs.Records.{noted, order_of, place_of, placed_by, record_of}
pub use Rattle.proof_runs.specs.Beneath.machine_model.specs.Refusing.{RefusesContent}
pub use Rattle.proof_runs.specs.Beneath.machine_model.specs.States.{State, operation_of, root_at, with_operation, word_at}
unfoldable pub use Rattle.proof_runs.specs.Beneath.machine_model.specs.States.{first_state}
pub use Rattle.proof_runs.specs.Beneath.machine_model.specs.Swapping.{action_at, complete_action_at, is_carried_out, root_action}
pub use Rattle.proof_runs.specs.Beneath.machine_model.specs.Tellings.{carried_by, changer_for, committed_now, entrant_of, given_by, given_in, given_now, progress_of, published_at, published_by}
pub use Rattle.proof_runs.specs.Beneath.machine_model.specs.Tellings.{told_in}
pub use Rattle.proof_runs.specs.Beneath.machine_model.specs.declared.actions.Action.{Action}
pub use Rattle.proof_runs.specs.Beneath.machine_model.specs.declared.lines.Line.{Line}
pub use Rattle.proof_runs.specs.Beneath.machine_model.specs.declared.lines.Purpose.{Purpose}
pub use Rattle.proof_runs.specs.Beneath.machine_model.specs.declared.operations.Operation.{Operation}
pub use Rattle.proof_runs.specs.Beneath.machine_model.specs.declared.reading.After.{After}
pub use Rattle.proof_runs.specs.Beneath.machine_model.specs.declared.reading.After.TheVariants.{Gives}
pub use Rattle.proof_runs.specs.Beneath.machine_model.specs.declared.reading.Read.{Read}
pub use Rattle.proof_runs.specs.Beneath.machine_model.specs.declared.reading.ReadLine.{ReadLine}
pub use Rattle.proof_runs.specs.Beneath.machine_model.specs.declared.reading.SwapLine.{SwapLine}
pub use Rattle.proof_runs.specs.Beneath.machine_model.specs.declared.records.Carried.{Carried}
pub use Rattle.proof_runs.specs.Beneath.machine_model.specs.declared.records.Commit.{Commit}
pub use Rattle.proof_runs.specs.Beneath.machine_model.specs.declared.records.Entrant.{Entrant}
pub use Rattle.proof_runs.specs.Beneath.machine_model.specs.declared.records.Publication.{Publication}
pub use Rattle.proof_runs.specs.Beneath.machine_model.specs.declared.roots.CompleteLine.{CompleteLine}
pub use Rattle.proof_runs.specs.Beneath.machine_model.specs.declared.roots.Descriptor.{Descriptor}
pub use Rattle.proof_runs.specs.Beneath.machine_model.specs.declared.roots.Root.{Root}
pub use Rattle.proof_runs.specs.Beneath.machine_model.specs.declared.roots.RootLine.{RootLine}
pub use Rattle.proof_runs.specs.Beneath.machine_model.specs.declared.roots.RootWord.{RootWord}
pub use Rattle.proof_runs.specs.Beneath.machine_model.specs.declared.roots.RootWord.TheVariants.{Offer, Plain}
pub use Rattle.proof_runs.specs.Beneath.machine_model.specs.declared.steps.Bounds.{Bounds}
pub use Rattle.proof_runs.specs.Beneath.machine_model.specs.declared.steps.Limits.{Limits}
pub use Rattle.proof_runs.specs.Beneath.machine_model.specs.declared.steps.Outcome.{Outcome}
pub use Rattle.proof_runs.specs.Beneath.machine_model.specs.declared.steps.Outcome.TheVariants.{Ended}
pub use Rattle.proof_runs.specs.Beneath.machine_model.specs.declared.steps.Step.{Step}
pub use Rattle.proof_runs.specs.Beneath.machine_model.specs.declared.steps.Step.TheVariants.{Go, Sweep}
pub use Rattle.proof_memory.specs.Laws.{FreedLate, HeldInUse, IsInUse, IsZero, StandingInUse, SweepLeaves}
pub use Rattle.proof_memory.specs.Sweeping.{Reclaimed, UsesReached, steps_for_a_slot}
pub use Rattle.proof_memory.specs.Wants.{AllHold, action_wants}
pub use Rattle.proof_runs.specs.Beneath.proof_order.specs.Laws.Orders.{IsExplained, Names, ShowsContents}
pub use Rattle.proof_runs.specs.Beneath.proof_updates.specs.Laws.Handles.{ClearsEmpty, ClosesTake, OfEachStep, OpenedCopy, RepairsStay, UntouchedStay, UpdatesChange}
pub use Rattle.proof_linearizable.specs.Laws.{AloneItActs, RanAlone}
pub use Rattle.proof_obstruction_free.specs.Calls.{IsNoWalk, slots_of}
pub use Rattle.proof_obstruction_free.specs.Closes.{ClosesEnd}
pub use Rattle.proof_obstruction_free.specs.Copies.{IsCopying}
pub use Rattle.proof_obstruction_free.specs.Laws.{EachStepLeadsToItsEnd, GoesOnAt, IsOnKeyOrRoot, RunsAlone, alone_after, most_steps_alone}
pub use Rattle.proof_obstruction_free.specs.Slots.{EnoughForCopies, EnoughForTries}
