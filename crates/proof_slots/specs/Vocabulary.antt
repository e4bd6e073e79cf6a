-- The words of the definition, for the files of this crate.
pub use Rattle.proof_slots.specs.Beneath.ctrie_base.specs.declared.refusals.Refusal.{Refusal}
unfoldable pub use Rattle.proof_slots.specs.Beneath.slot_arena.specs.Counts.{count_of}
pub use Rattle.proof_slots.specs.Beneath.slot_arena.specs.Heaps.{Heap, empty_branch, generation_at, generation_of, heap_refs, in_use, main_at, main_changed, main_of, named_from, next_ref, node_of}
pub use Rattle.proof_slots.specs.Beneath.slot_arena.specs.Heaps.{prev_changed, prev_of, ref_in, refs_of_slot, take_from, written}
unfoldable pub use Rattle.proof_slots.specs.Beneath.slot_arena.specs.Heaps.{freed, node_at, prev_at, stored, taken, with_main, with_prev}
pub use Rattle.proof_slots.specs.Beneath.slot_arena.specs.Refs.{birth_of, ref_to, slot_of}
pub use Rattle.proof_slots.specs.Beneath.slot_arena.specs.declared.nodes.Node.{Node}
pub use Rattle.proof_slots.specs.Beneath.slot_arena.specs.declared.nodes.Node.TheVariants.{Indirection}
pub use Rattle.proof_slots.specs.Beneath.slot_arena.specs.declared.nodes.Prev.{Prev}
pub use Rattle.proof_slots.specs.Beneath.slot_arena.specs.declared.nodes.Slot.{Slot}
pub use Rattle.proof_slots.specs.Beneath.slot_arena.specs.declared.refs.Ref.{Ref}
pub use Rattle.proof_slots.specs.Beneath.epochs.specs.Limbo.{by_birth, is_in, limbo_after}
pub use Rattle.proof_slots.specs.Beneath.epochs.specs.Sweeping.{advanced, is_passed, ripe, scanned, sweep_by}
pub use Rattle.proof_slots.specs.Beneath.epochs.specs.declared.limbo.Zeroed.{Zeroed}
pub use Rattle.proof_slots.specs.Beneath.history.specs.declared.calls.Access.{Access}
pub use Rattle.proof_slots.specs.Beneath.history.specs.declared.calls.Access.TheVariants.{ReadOnly, Writable}
pub use Rattle.proof_slots.specs.Beneath.history.specs.declared.calls.Call.{Call}
pub use Rattle.proof_slots.specs.Beneath.history.specs.declared.replies.Reply.{Reply}
pub use Rattle.machine_model.specs.Acting.{acted, attempt_after, carried_out, decided, gone, if_changed, mark_after, marked, new_root_taken, opened, operation_after, private_after, published}
pub use Rattle.machine_model.specs.Acting.{restored, with_made}
pub use Rattle.machine_model.specs.Building.{changed}
pub use Rattle.machine_model.specs.Calls.{handle_of, is_close, needs_read_only, needs_writable, opens_handle}
pub use Rattle.machine_model.specs.Counting.{outside, settled}
pub use Rattle.machine_model.specs.GivingUp.{gave_up, given_up}
pub use Rattle.machine_model.specs.Grown.{standing}
pub use Rattle.machine_model.specs.Machine.{Answer, AreBounds, access_of, begin_denial, begin_unless, begun_operation, first_reason, give_up_by, give_up_on, give_up_unless, go_denial, go_on}
pub use Rattle.machine_model.specs.Machine.{go_unless, is_access, is_actor, is_running, is_spent, is_taken, is_taken_step, lacks_number, next_state, pin_of, reclaimer_of, run, runs_on}
pub use Rattle.machine_model.specs.Machine.{settled_after, state_after, step_by, swept, swept_with, with_begin}
unfoldable pub use Rattle.machine_model.specs.Machine.{least_from, next, run_from, taken_below}
pub use Rattle.machine_model.specs.Moves.{Begins, Ends, GivesUp, Moves, Sweeps}
pub use Rattle.machine_model.specs.Operations.{action_of, generation_after, kind_of, line_after, read_of}
pub use Rattle.machine_model.specs.Reading.{Commits, Fails, Overtaken, Verdict, after_decide, after_prev, committed_by, committed_so, read_action, read_after, read_step, verdict}
pub use Rattle.machine_model.specs.Records.{Record, first_record, next_record, noted, record_of}
unfoldable pub use Rattle.machine_model.specs.Records.{record_from}
pub use Rattle.machine_model.specs.States.{State, empty_heap, first_heap, handle_limit, operation_of, root_at, with_operation, with_root, with_word, word_at}
unfoldable pub use Rattle.machine_model.specs.States.{first_state}
pub use Rattle.machine_model.specs.Swapping.{after_check, after_complete, after_completing, after_deciding, after_reading, complete_after, is_carried_out, is_plain, of_offer, on_line, root_after}
pub use Rattle.machine_model.specs.Swapping.{stands_in, swap_after}
pub use Rattle.machine_model.specs.Tellings.{begin_told, carried_by, committed_in, committed_now, counts_from, given_by, given_in, given_now, progress_of, published_by, told_by, told_in, told_of}
pub use Rattle.machine_model.specs.Words.{SameContents, SameWord, content_of}
pub use Rattle.machine_model.specs.declared.actions.Action.{Action}
pub use Rattle.machine_model.specs.declared.lines.Line.{Line}
pub use Rattle.machine_model.specs.declared.operations.Operation.{Operation}
pub use Rattle.machine_model.specs.declared.reading.Read.{Read}
pub use Rattle.machine_model.specs.declared.reading.ReadLine.{ReadLine}
pub use Rattle.machine_model.specs.declared.reading.Swap.{Swap}
pub use Rattle.machine_model.specs.declared.reading.SwapLine.{SwapLine}
pub use Rattle.machine_model.specs.declared.records.Carried.{Carried}
pub use Rattle.machine_model.specs.declared.records.Progress.{Progress}
pub use Rattle.machine_model.specs.declared.records.Publication.{Publication}
pub use Rattle.machine_model.specs.declared.roots.Complete.{Complete}
pub use Rattle.machine_model.specs.declared.roots.CompleteLine.{CompleteLine}
pub use Rattle.machine_model.specs.declared.roots.Descriptor.{Descriptor}
pub use Rattle.machine_model.specs.declared.roots.RootLine.{RootLine}
pub use Rattle.machine_model.specs.declared.roots.RootWord.{RootWord}
pub use Rattle.machine_model.specs.declared.roots.RootWord.TheVariants.{Offer, Plain}
pub use Rattle.machine_model.specs.declared.steps.Bounds.{Bounds}
pub use Rattle.machine_model.specs.declared.steps.Outcome.{Outcome}
pub use Rattle.machine_model.specs.declared.steps.Step.{Step}
