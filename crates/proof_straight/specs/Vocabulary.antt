-- The words of the definition, for the files of this crate.
pub use Rattle.proof_straight.specs.Beneath.ctrie_base.specs.Paths.{position_of}
pub use Rattle.proof_straight.specs.Beneath.ctrie_base.specs.declared.kinds.Kind.{Kind}
pub use Rattle.proof_straight.specs.Beneath.ctrie_base.specs.declared.refusals.Refusal.{Refusal}
pub use Rattle.proof_straight.specs.Beneath.slot_arena.specs.Arenas.{IsLive, has_birth}
unfoldable pub use Rattle.proof_straight.specs.Beneath.slot_arena.specs.Counts.{count_of}
pub use Rattle.proof_straight.specs.Beneath.slot_arena.specs.Heaps.{Heap, bitmap_of, empty_branch, entries_from, entries_of, entry_at, generation_at, generation_of, in_use, main_at, main_changed}
pub use Rattle.proof_straight.specs.Beneath.slot_arena.specs.Heaps.{main_of, named_from, next_ref, no_ref, node_of, prev_changed, prev_of, refs_of_slot, with_main_word, written}
unfoldable pub use Rattle.proof_straight.specs.Beneath.slot_arena.specs.Heaps.{node_at, prev_at, stored, taken, with_main, with_prev}
pub use Rattle.proof_straight.specs.Beneath.slot_arena.specs.Refs.{birth_of, most_slots, ref_to, slot_of}
pub use Rattle.proof_straight.specs.Beneath.slot_arena.specs.Times.{times}
pub use Rattle.proof_straight.specs.Beneath.slot_arena.specs.declared.nodes.Node.{Node}
pub use Rattle.proof_straight.specs.Beneath.slot_arena.specs.declared.nodes.Node.TheVariants.{Branch, Indirection, List, Single, Tomb}
pub use Rattle.proof_straight.specs.Beneath.slot_arena.specs.declared.nodes.Prev.{Prev}
pub use Rattle.proof_straight.specs.Beneath.slot_arena.specs.declared.nodes.Slot.{Slot}
pub use Rattle.proof_straight.specs.Beneath.slot_arena.specs.declared.refs.Ref.{Ref}
pub use Rattle.proof_straight.specs.Beneath.epochs.specs.Limbo.{by_birth, is_in, is_in_use, is_zero, limbo_after, newly_zero}
pub use Rattle.proof_straight.specs.Beneath.epochs.specs.declared.limbo.Zeroed.{Zeroed}
pub use Rattle.proof_straight.specs.Beneath.nodes.specs.Builders.{contracted, pair, renewed, rung}
pub use Rattle.proof_straight.specs.Beneath.nodes.specs.Levels.{flag_of, has_flag}
pub use Rattle.machine_model.specs.Beneath.places.specs.Places.{on_time, place_by}
pub use Rattle.machine_model.specs.Beneath.places.specs.declared.place.Place.{Place}
pub use Rattle.proof_straight.specs.Beneath.history.specs.declared.calls.Access.{Access}
pub use Rattle.proof_straight.specs.Beneath.history.specs.declared.calls.Access.TheVariants.{ReadOnly, Writable}
pub use Rattle.proof_straight.specs.Beneath.history.specs.declared.calls.Call.{Call}
pub use Rattle.proof_straight.specs.Beneath.history.specs.declared.replies.Reply.{Reply}
pub use Rattle.machine_model.specs.Acting.{acted, attempt_after, carried_out, decided, ended, gone, if_changed, mark_after, marked, new_root_taken, opened, operation_after, private_after, published}
pub use Rattle.machine_model.specs.Acting.{with_made}
pub use Rattle.machine_model.specs.Building.{after_single, build_action, build_after_made, build_if_made, changed, key_in, old_hash, pair_depth}
pub use Rattle.machine_model.specs.Calls.{absent_reply, answers_unless, changed_reply, handle_of, inserts, is_close, key_of, needs_read_only, needs_writable, opens_handle, value_of, when_found}
pub use Rattle.machine_model.specs.Climbing.{climb_after_contracted, climb_after_main, climb_after_read, climbed}
pub use Rattle.machine_model.specs.Copying.{after_given, after_offer, copied_reply, copy_action, copy_after, copy_after_complete, copy_after_read, copy_if_made}
pub use Rattle.machine_model.specs.Counting.{outside, refs_of_operation, refs_of_root, settled}
pub use Rattle.machine_model.specs.Finding.{absent, absent_beside, absent_listed, after_listed, after_sibling, found, found_so, going_down, key_action, key_after, key_after_entry, key_after_main}
pub use Rattle.machine_model.specs.Finding.{key_after_read, passes, removing}
pub use Rattle.machine_model.specs.GivingUp.{gave_up}
pub use Rattle.machine_model.specs.Keys.{KeysFit}
pub use Rattle.machine_model.specs.Lines.{new_try}
pub use Rattle.machine_model.specs.Machine.{Answer, AreBounds, access_of, begin_denial, begin_unless, begun_operation, first_reason, go_denial, go_on, go_unless, handles_taken, is_access, is_actor}
pub use Rattle.machine_model.specs.Machine.{is_busy, is_running, is_taken_step, least_free, longest_life, most_actors, run, runs_on, state_after, step_by, swept, with_begin}
unfoldable pub use Rattle.machine_model.specs.Machine.{next, run_from}
pub use Rattle.machine_model.specs.Moves.{Begins, Ends, GivesUp, GoesOn, Moves, Sweeps}
pub use Rattle.machine_model.specs.Operations.{action_of, after_root, after_update, first_line, generation_after, given_root, kind_of, line_after, swapped}
pub use Rattle.machine_model.specs.Paths.{above, current}
pub use Rattle.machine_model.specs.Reading.{Commits, after_ask, after_decide, after_prev, at_indirection, committed_so, is_pending, read_action, reading, verdict, verdict_by}
pub use Rattle.machine_model.specs.Records.{Record, closing_for, committed_at, entered, entered_at_end, entered_by, first_record, is_placed, moment_after, moment_at, no_moment, noted, noted_end}
pub use Rattle.machine_model.specs.Records.{noted_progress, place_of, with_moment}
unfoldable pub use Rattle.machine_model.specs.Records.{record_from}
pub use Rattle.machine_model.specs.Renewing.{renew_after_branch, renew_after_entry, renew_after_link, renew_after_read, renew_next}
pub use Rattle.machine_model.specs.States.{State, first_heap, handle_limit, key_hash, operation_of, rewritten, root_at, with_operation, with_root, with_word, word_at, word_of}
unfoldable pub use Rattle.machine_model.specs.States.{first_state}
pub use Rattle.machine_model.specs.Swapping.{after_check, after_deciding, after_publish, after_reading, after_root_word, complete_action, complete_action_at, completing, is_plain, of_offer, on_line}
pub use Rattle.machine_model.specs.Swapping.{stands_in, swapping}
pub use Rattle.machine_model.specs.Tellings.{carried_by, changer_for, counts_from, entrant_of, given_by, progress_of, told_by, told_in, told_of}
pub use Rattle.machine_model.specs.declared.actions.Action.{Action}
pub use Rattle.machine_model.specs.declared.building.BuildLine.{BuildLine}
pub use Rattle.machine_model.specs.declared.building.Change.{Change}
pub use Rattle.machine_model.specs.declared.building.Site.{Site}
pub use Rattle.machine_model.specs.declared.copying.CopyLine.{CopyLine}
pub use Rattle.machine_model.specs.declared.finding.KeyLine.{KeyLine}
pub use Rattle.machine_model.specs.declared.finding.WhenFound.{WhenFound}
pub use Rattle.machine_model.specs.declared.finding.WhenFound.TheVariants.{Answers, Removes, Sets}
pub use Rattle.machine_model.specs.declared.lines.Line.{Line}
pub use Rattle.machine_model.specs.declared.lines.Purpose.{Purpose}
pub use Rattle.machine_model.specs.declared.operations.Operation.{Operation}
pub use Rattle.machine_model.specs.declared.reading.After.{After}
pub use Rattle.machine_model.specs.declared.reading.After.TheVariants.{Gives}
pub use Rattle.machine_model.specs.declared.reading.ReadLine.{ReadLine}
pub use Rattle.machine_model.specs.declared.reading.SwapLine.{SwapLine}
pub use Rattle.machine_model.specs.declared.records.Carried.{Carried}
pub use Rattle.machine_model.specs.declared.records.Closing.{Closing}
pub use Rattle.machine_model.specs.declared.records.Entrant.{Entrant}
pub use Rattle.machine_model.specs.declared.records.Moment.{Moment}
pub use Rattle.machine_model.specs.declared.records.Progress.{Progress}
pub use Rattle.machine_model.specs.declared.records.Publication.{Publication}
pub use Rattle.machine_model.specs.declared.repairs.Climb.{Climb}
pub use Rattle.machine_model.specs.declared.repairs.ClimbLine.{ClimbLine}
pub use Rattle.machine_model.specs.declared.repairs.RenewLine.{RenewLine}
pub use Rattle.machine_model.specs.declared.roots.Complete.{Complete}
pub use Rattle.machine_model.specs.declared.roots.CompleteLine.{CompleteLine}
pub use Rattle.machine_model.specs.declared.roots.Descriptor.{Descriptor}
pub use Rattle.machine_model.specs.declared.roots.Root.{Root}
pub use Rattle.machine_model.specs.declared.roots.RootWord.{RootWord}
pub use Rattle.machine_model.specs.declared.roots.RootWord.TheVariants.{Offer, Plain}
pub use Rattle.machine_model.specs.declared.steps.Bounds.{Bounds}
pub use Rattle.machine_model.specs.declared.steps.Outcome.{Outcome}
pub use Rattle.machine_model.specs.declared.steps.Step.{Step}
